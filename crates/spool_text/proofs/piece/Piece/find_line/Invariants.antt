use Rattle.std.proofs.Common.{◌≢◌, ◌≤◌, ◌-◌, length, take}
use Rattle.std.specs.List.{AllByRecursion}
use Rattle.spool_text.proofs.piece.Piece.find_line.Given as goal

abbrev pub invariant-looking : goal.invariant-looking
invariant-looking l = record {
  inside : l.at ≤ length l.bytes;
  few : l.at ≤ 201;
  no_feed : AllByRecursion (λ c. c ≢ 10) (take l.at l.bytes);
}

abbrev pub decreases-looking : goal.decreases-looking
decreases-looking l = 201 - l.at
