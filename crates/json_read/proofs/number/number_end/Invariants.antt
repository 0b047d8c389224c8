use Rattle.std.proofs.Common.{length, ◌-◌, ◌≡◌, ◌<◌, ◌≤◌, ◌+◌, drop}
use Rattle.std.specs.Prelude.{slice_range}
use Rattle.json_machine.specs.Machine.{number_verdict}
use Rattle.json_read.specs.Numbers.{state_of, IsBegun}
use Rattle.json_read.proofs.number.number_end.Given as goal

abbrev pub invariant-digits : goal.invariant-digits
invariant-digits l = record {
  past : l.start < l.at;
  within : l.at ≤ length l.bytes;
  begun : IsBegun l.state;
  same : number_verdict (state_of l.state) (slice_range l.bytes l.start l.at) l.at (drop l.at l.bytes) ≡ number_verdict (state_of l.fn.first) (slice_range l.bytes l.start (l.start + 1)) (l.start + 1) (drop (l.start + 1) l.bytes);
}

abbrev pub decreases-digits : goal.decreases-digits
decreases-digits l = length l.bytes - l.at
