use Rattle.std.proofs.Common.{Some, None, subst}
use Rattle.core_ends.specs.core_claims.declared.answers.Claimed.{Claimed}
use Rattle.core_ends.specs.core_course.Sight.{sight_of}
use Rattle.live_stage.specs.StageCalls.{HasStageJob}
use Rattle.live_stage.proofs.Holds.{claims_job, claims_none, turns_later}
use Rattle.live_stage.proofs.worker.turn.Goals as goal

pub work_on-requires-clause-submitted : goal.work_on-requires-clause-submitted
work_on-requires-clause-submitted g c = (subst (λ (came : Claimed). HasStageJob came c.claim.new.pass.seen) c.in-Job.is c.claim.ensures.job).0

pub work_on-requires-clause-fit : goal.work_on-requires-clause-fit
work_on-requires-clause-fit g c = (subst (λ (came : Claimed). HasStageJob came c.claim.new.pass.seen) c.in-Job.is c.claim.ensures.job).1

pub returns-in-Job-clause-ends : goal.returns-in-Job-clause-ends
returns-in-Job-clause-ends g c =
    let w = sight_of g.D.Disk g.K.Keeper in
    let n = g.K.Keeper.generation in
    turns_later w n c.work_on.result None (Some c.in-Job.job) c.args.pass.now c.claim.new.pass c.work_on.new.pass
    (claims_job w n c.args.pass.now c.claim.new.pass c.claim.result c.in-Job.job c.in-Job.is c.claim.ensures.call) c.work_on.ensures.ends

pub returns-in_default-clause-ends : goal.returns-in_default-clause-ends
returns-in_default-clause-ends g c =
    claims_none (sight_of g.D.Disk g.K.Keeper) g.K.Keeper.generation c.args.pass.now c.claim.new.pass c.claim.result c.after_claim.result c.in_default.not-Job c.after_claim.ensures c.claim.ensures.call
