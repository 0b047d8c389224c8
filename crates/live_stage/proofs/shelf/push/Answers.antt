use Rattle.std.proofs.Common.{[], ◌∷◌, ◌++◌}
use Rattle.live_stage.proofs.Shelving.{newest_same, newest_none}
use Rattle.live_stage.proofs.shelf.push.Goals as goal

pub returns-in-Ok : goal.returns-in-Ok
returns-in-Ok c = newest_same (c.args.steps.now.items ++ c.args.step ∷ []) c.push_back.new.self.items c.in-Ok.ensures.items

pub returns-in-Err : goal.returns-in-Err
returns-in-Err c = newest_none (c.args.steps.now.items ++ c.args.step ∷ []) c.clear.new.self.items c.clear.ensures.items
