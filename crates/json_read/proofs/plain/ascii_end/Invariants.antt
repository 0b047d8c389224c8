use Rattle.std.proofs.Common.{length, ◌-◌, ◌≡◌, ◌≤◌, ◌++◌, ℕ, List, drop}
use Rattle.std.specs.Prelude.{slice_range}
use Rattle.json_machine.specs.Machine.{text_verdict, inside}
use Rattle.json_read.proofs.plain.ascii_end.Given as goal

abbrev pub invariant-ascii : goal.invariant-ascii
invariant-ascii l = record {
  past : l.start ≤ l.at;
  within : l.at ≤ length l.bytes;
  same : (s : List ℕ) → text_verdict inside s l.start (drop l.start l.bytes) ≡ text_verdict inside (s ++ slice_range l.bytes l.start l.at) l.at (drop l.at l.bytes);
}

abbrev pub decreases-ascii : goal.decreases-ascii
decreases-ascii l = length l.bytes - l.at

abbrev pub invariant-chunks : goal.invariant-chunks
invariant-chunks l = record {
  past : l.start ≤ l.at;
  within : l.at ≤ length l.bytes;
  same : (s : List ℕ) → text_verdict inside s l.start (drop l.start l.bytes) ≡ text_verdict inside (s ++ slice_range l.bytes l.start l.at) l.at (drop l.at l.bytes);
}

abbrev pub decreases-chunks : goal.decreases-chunks
decreases-chunks l = length l.bytes - l.at
