use Rattle.std.proofs.Common.{◌≡◌, ◌++◌, map, drop}
use Rattle.core_opening.specs.Replayed.{grouped}
use Rattle.core_opening.proofs.groups.with_groups.Given as goal

abbrev pub invariant-grouping : goal.invariant-grouping
invariant-grouping l = l.pending ++ map grouped (drop l.at l.waiting) ≡ map grouped l.waiting
