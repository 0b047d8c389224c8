-- some of the oldest are forgotten
use Rattle.live_stage.specs.Shelf.{KeepsNewest}
use Rattle.live_stage.proofs.shelf.forget_oldest.Given as goal

abbrev pub invariant-oldest : goal.invariant-oldest
invariant-oldest l = KeepsNewest l.fn.steps.items l.steps.items
