-- so far, and what is left
use Rattle.std.proofs.Common.{◌≡◌, ◌++◌, drop}
use Rattle.live_stage.proofs.shelf.share_onto.Given as goal

abbrev pub invariant-sharing : goal.invariant-sharing
invariant-sharing l = l.steps.items ++ drop l.i l.from.items ≡ l.fn.steps.items ++ drop l.fn.at l.from.items
