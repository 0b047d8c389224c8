use Rattle.std.proofs.Common.{length, ◌-◌, ◌≡◌, ◌≤◌, ◌++◌, ℕ, List, drop}
use Rattle.std.specs.Prelude.{slice_range, slice_index, ◌<◌}
use Rattle.json_machine.specs.Machine.{text_verdict, inside}
use Rattle.json_read.specs.Strings.{IsPlainAscii}
use Rattle.json_read.proofs.plain.plain_end.Given as goal

abbrev pub invariant-plain : goal.invariant-plain
invariant-plain l = record {
  past : l.start ≤ l.at;
  within : l.at ≤ length l.bytes;
  other : l.at < length l.bytes → ¬ IsPlainAscii (slice_index l.bytes l.at);
  same : (s : List ℕ) → text_verdict inside s l.start (drop l.start l.bytes) ≡ text_verdict inside (s ++ slice_range l.bytes l.start l.at) l.at (drop l.at l.bytes);
}

abbrev pub decreases-plain : goal.decreases-plain
decreases-plain l = length l.bytes - l.at
