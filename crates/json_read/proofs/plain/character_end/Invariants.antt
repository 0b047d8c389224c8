use Rattle.std.proofs.Common.{length, ◌-◌, ◌≡◌, ◌<◌, ◌≤◌, ◌++◌, ℕ, List, drop}
use Rattle.std.specs.Prelude.{slice_range}
use Rattle.json_machine.specs.Machine.{text_verdict, inside}
use Rattle.json_read.specs.Strings.{plain_of}
use Rattle.json_read.proofs.plain.character_end.Given as goal

abbrev pub invariant-tails : goal.invariant-tails
invariant-tails l = record {
  past : l.start < l.at;
  within : l.at ≤ length l.bytes;
  same : (s : List ℕ) → text_verdict inside s l.start (drop l.start l.bytes) ≡ text_verdict (plain_of l.state) (s ++ slice_range l.bytes l.start l.at) l.at (drop l.at l.bytes);
}

abbrev pub decreases-tails : goal.decreases-tails
decreases-tails l = length l.bytes - l.at
