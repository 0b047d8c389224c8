use Rattle.std.proofs.Common.{Some, None}
use Rattle.live_stage.proofs.Shelving.{newest_popped}
use Rattle.live_stage.proofs.shelf.forget_one.Goals as goal

pub returns-in-Some : goal.returns-in-Some
returns-in-Some c = newest_popped c.args.steps.now.items c.pop_front.new.self.items (Some c.in-Some.step) c.in-Some.ensures.items

pub returns-in-None : goal.returns-in-None
returns-in-None c = newest_popped c.args.steps.now.items c.pop_front.new.self.items None c.in-None.ensures.items
