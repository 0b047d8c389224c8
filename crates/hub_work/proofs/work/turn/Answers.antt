use Rattle.std.proofs.Common.{◌∙◌, Some, None, subst}
use Rattle.turn_lock.proofs.Prefixes.{prefix_trans}
use Rattle.hub_calls.specs.core_ends.core_claims.declared.answers.Claimed.{Claimed}
use Rattle.hub_calls.specs.core_ends.core_course.Sight.{Sight, sight}
use Rattle.hub_calls.specs.Seen.{HasJob}
use Rattle.hub_work.proofs.Ends.{works_later, claims_job, last_claim}
use Rattle.hub_work.proofs.work.turn.Goals as goal

pub work_on-requires-clause-submitted : goal.work_on-requires-clause-submitted
work_on-requires-clause-submitted g c = (subst (λ (came : Claimed). HasJob came c.claim.new.pass.seen) c.in-Job.is c.claim.ensures.job).0

pub work_on-requires-clause-fit : goal.work_on-requires-clause-fit
work_on-requires-clause-fit g c = (subst (λ (came : Claimed). HasJob came c.claim.new.pass.seen) c.in-Job.is c.claim.ensures.job).1

pub returns-in-Job-clause-ends : goal.returns-in-Job-clause-ends
returns-in-Job-clause-ends g c =
    let w : Sight g.row.D.Denot g.row.K.Denot = sight g.D.Disk.is_told g.D.Disk.seen g.D.Disk.may_leave g.D.Disk.moment g.D.Disk.left_since g.D.Disk.fault_count g.K.Keeper.is_told g.K.Keeper.kept g.K.Keeper.images g.K.Keeper.moment g.K.Keeper.images_since g.K.Keeper.down g.K.Keeper.size g.K.Keeper.fault_count g.K.Keeper.opened g.K.Keeper.is_within in
    works_later w g.K.Keeper.generation g.P.Purpose.only_work None (Some c.in-Job.job) c.args.pass.now c.claim.new.pass (claims_job w g.K.Keeper.generation g.P.Purpose.only_work c.args.pass.now c.claim.new.pass c.claim.result c.in-Job.job c.in-Job.is c.claim.ensures.one_call) c.work_on.result c.work_on.new.pass c.work_on.ensures.ends

pub returns-in_default-clause-ends : goal.returns-in_default-clause-ends
returns-in_default-clause-ends g c =
    let w : Sight g.row.D.Denot g.row.K.Denot = sight g.D.Disk.is_told g.D.Disk.seen g.D.Disk.may_leave g.D.Disk.moment g.D.Disk.left_since g.D.Disk.fault_count g.K.Keeper.is_told g.K.Keeper.kept g.K.Keeper.images g.K.Keeper.moment g.K.Keeper.images_since g.K.Keeper.down g.K.Keeper.size g.K.Keeper.fault_count g.K.Keeper.opened g.K.Keeper.is_within in
    last_claim w g.K.Keeper.generation g.P.Purpose.only_work c.args.pass.now c.claim.new.pass c.claim.result c.end_of_claim.result c.in_default.not-Job c.end_of_claim.ensures c.claim.ensures.one_call

pub returns-in-Job-clause-pass : goal.returns-in-Job-clause-pass
returns-in-Job-clause-pass g c = (
  c.work_on.ensures.pass.0 ∙ c.claim.ensures.pass.0,
  c.work_on.ensures.pass.1 ∙ c.claim.ensures.pass.1,
  prefix_trans c.args.pass.now.seen c.claim.new.pass.seen c.work_on.new.pass.seen c.claim.ensures.pass.2 c.work_on.ensures.pass.2,
  prefix_trans c.args.pass.now.holds c.claim.new.pass.holds c.work_on.new.pass.holds c.claim.ensures.pass.3 c.work_on.ensures.pass.3,
)
