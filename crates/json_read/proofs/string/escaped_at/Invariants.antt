use Rattle.std.proofs.Common.{length, ◌-◌, ◌≡◌, ◌≤◌, ◌<◌, [], drop}
use Rattle.std.specs.Prelude.{slice_index}
use Rattle.json_machine.specs.Machine.{text_verdict, inside}
use Rattle.json_read.specs.Strings.{IsStop}
use Rattle.json_read.proofs.string.escaped_at.Given as goal

abbrev pub invariant-escapes : goal.invariant-escapes
invariant-escapes l = record {
  past : l.start ≤ l.at;
  within : l.at < length l.bytes;
  stop : IsStop (slice_index l.bytes l.at);
  same : text_verdict inside [] l.start (drop l.start l.bytes) ≡ text_verdict inside l.out.items l.at (drop l.at l.bytes);
}

abbrev pub decreases-escapes : goal.decreases-escapes
decreases-escapes l = length l.bytes - l.at
