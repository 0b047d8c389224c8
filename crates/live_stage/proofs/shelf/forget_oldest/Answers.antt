use Rattle.std.proofs.Common.{refl}
use Rattle.live_stage.proofs.Shelving.{newest_newest}
use Rattle.live_stage.proofs.shelf.forget_oldest.Goals as goal

pub oldest-init : goal.oldest-init
oldest-init c = (0, refl)

pub oldest-preserved : goal.oldest-preserved
oldest-preserved c = newest_newest c.args.steps.now.items c.oldest.steps.items c.forget_one.new.steps.items c.oldest.invariant c.forget_one.ensures
