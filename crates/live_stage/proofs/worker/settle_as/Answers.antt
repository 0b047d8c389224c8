use Rattle.std.proofs.Common.{Some}
use Rattle.core_ends.specs.core_course.Sight.{sight_of}
use Rattle.live_stage.proofs.Holds.{settle_returns, settle_ends, turns_later}
use Rattle.live_stage.proofs.worker.settle_as.Goals as goal

pub returns-in-Memory-clause-ends : goal.returns-in-Memory-clause-ends
returns-in-Memory-clause-ends g c =
    let w = sight_of g.D.Disk g.K.Keeper in
    let n = g.K.Keeper.generation in
    turns_later w n c.give_back.result (Some c.args.job) (Some c.in-Memory.job) c.args.pass.now c.settle.new.pass c.give_back.new.pass
    (settle_returns w n c.args.pass.now c.settle.new.pass c.settle.result c.args.job c.in-Memory.job c.args.verdict c.in-Memory.verdict c.in-Memory.is c.settle.ensures.call) c.give_back.ensures.ends

pub returns-in_default-clause-ends : goal.returns-in_default-clause-ends
returns-in_default-clause-ends g c =
    settle_ends (sight_of g.D.Disk g.K.Keeper) g.K.Keeper.generation c.args.pass.now c.settle.new.pass c.settle.result c.args.job c.args.verdict c.after_settle.result c.in_default.not-Memory c.after_settle.ensures
    c.settle.ensures.call
