use Rattle.std.proofs.Common.{◌≡◌, drop}
use Rattle.core_opening.specs.Opened.{greatest_of}
use Rattle.core_opening.proofs.greatest.greatest.Given as goal

abbrev pub invariant-passing : goal.invariant-passing
invariant-passing l = greatest_of l.most (drop l.at l.pending) ≡ greatest_of l.last l.pending
