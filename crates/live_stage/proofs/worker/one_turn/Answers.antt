use Rattle.core_ends.specs.core_course.Sight.{sight_of}
use Rattle.live_stage.proofs.Holds.{goes_on_or}
use Rattle.live_stage.proofs.worker.one_turn.Goals as goal

pub returns-clause-ends : goal.returns-clause-ends
returns-clause-ends g c =
    goes_on_or (sight_of g.D.Disk g.K.Keeper) g.K.Keeper.generation c.turn-next.result c.after_turn.result c.args.pass.now c.turn-next.new.pass c.after_turn.ensures.next c.turn-next.ensures.ends
