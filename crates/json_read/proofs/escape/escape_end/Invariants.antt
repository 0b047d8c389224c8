use Rattle.std.proofs.Common.{length, ◌-◌, ◌≡◌, ◌≤◌, ℕ, List, drop}
use Rattle.json_machine.specs.Machine.{text_verdict, escape}
use Rattle.json_read.specs.Strings.{escape_of, IsSmall}
use Rattle.json_read.proofs.escape.escape_end.Given as goal

abbrev pub invariant-escape : goal.invariant-escape
invariant-escape l = record {
  past : l.start ≤ l.at;
  within : l.at ≤ length l.bytes;
  small : IsSmall l.state;
  same : (s : List ℕ) → text_verdict escape s l.start (drop l.start l.bytes) ≡ text_verdict (escape_of l.state) s l.at (drop l.at l.bytes);
}

abbrev pub decreases-escape : goal.decreases-escape
decreases-escape l = length l.bytes - l.at
