use Rattle.core_ends.specs.core_course.Sight.{sight_of}
use Rattle.live_stage.proofs.Holds.{releases}
use Rattle.live_stage.proofs.worker.give_back.Goals as goal

pub returns-clause-ends : goal.returns-clause-ends
returns-clause-ends g c = releases (sight_of g.D.Disk g.K.Keeper) g.K.Keeper.generation c.args.pass.now c.release.new.pass c.args.job c.release.ensures.call
