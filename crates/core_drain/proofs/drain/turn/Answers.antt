use Rattle.std.proofs.Common.{◌∙◌, Option, ap, sym, subst}
use Rattle.core_ends.specs.core_claims.declared.answers.Claimed.{Claimed}
use Rattle.core_ends.specs.core_claims.Claims.{HasSubmittedJob}
use Rattle.core_ends.specs.core_course.Sight.{Sight, sight}
use Rattle.core_ends.proofs.of_core_course.Stretches.{worked_on}
use Rattle.core_ends.proofs.Claims.{ClaimSays, claim_events, claim_passes, claim_works}
use Rattle.core_ends.specs.Ends.{EndsHere}
use Rattle.core_ends.specs.declared.ends.WorkEnd.{WorkEnd}
use Rattle.core_ends.specs.Answers.{after_claim}
use Rattle.core_drain.proofs.Calm.{counts_as, counts_calm, counts_then, claim_fault}
use Rattle.core_ends.proofs.ClaimEnds.{ClaimAnswers, claim_ends}
use Rattle.core_ends.proofs.Later.{here_later}
use Rattle.core_drain.proofs.Unclaimed.{claims_none, claimed_let_go}
use Rattle.core_drain.proofs.LastCall.{turn_later, last_claim}
use Rattle.core_drain.proofs.drain.turn.Goals as goal

pub work_on-requires-clause-up : goal.work_on-requires-clause-up
work_on-requires-clause-up g c = c.claim.ensures.does.up (λ e. let other = sym c.in-Job.is ∙ e in cc) ∙ c.requires.up

pub work_on-requires-clause-submitted : goal.work_on-requires-clause-submitted
work_on-requires-clause-submitted g c = (subst (λ (came : Claimed). HasSubmittedJob came c.claim.new.self) c.in-Job.is c.claim.ensures.does.job).0

pub work_on-requires-clause-fit : goal.work_on-requires-clause-fit
work_on-requires-clause-fit g c = (subst (λ (came : Claimed). HasSubmittedJob came c.claim.new.self) c.in-Job.is c.claim.ensures.does.job).1

pub returns-in-Job-clause-worked : goal.returns-in-Job-clause-worked
returns-in-Job-clause-worked g c =
    let w : Sight g.row.D.Denot g.row.K.Denot = sight g.D.Disk.is_told g.D.Disk.seen g.D.Disk.may_leave g.D.Disk.moment g.D.Disk.left_since g.D.Disk.fault_count g.K.Keeper.is_told g.K.Keeper.kept g.K.Keeper.images g.K.Keeper.moment g.K.Keeper.images_since g.K.Keeper.down g.K.Keeper.size g.K.Keeper.fault_count g.K.Keeper.opened g.K.Keeper.is_within in
    let says : ClaimSays w c.claim.result c.args.core.now c.claim.new.self = record {
      adds = c.claim.ensures.does.adds;
      stands = c.claim.ensures.does.stands;
      any_moment = c.claim.ensures.does.any_moment;
      submitted = c.claim.ensures.does.submitted;
      others = c.claim.ensures.does.others;
      store = c.claim.ensures.does.store;
      down = c.claim.ensures.does.down;
      unchanged = c.claim.ensures.does.unchanged;
      cause = c.claim.ensures.does.cause;
      twice = c.claim.ensures.does.twice;
    } in
    worked_on w c.args.core.now c.claim.new.self c.work_on.new.core (claim_works w c.claim.result c.args.core.now c.claim.new.self says) c.work_on.ensures.worked

pub returns-in-Job-clause-ends : goal.returns-in-Job-clause-ends
returns-in-Job-clause-ends g c =
    let w : Sight g.row.D.Denot g.row.K.Denot = sight g.D.Disk.is_told g.D.Disk.seen g.D.Disk.may_leave g.D.Disk.moment g.D.Disk.left_since g.D.Disk.fault_count g.K.Keeper.is_told g.K.Keeper.kept g.K.Keeper.images g.K.Keeper.moment g.K.Keeper.images_since g.K.Keeper.down g.K.Keeper.size g.K.Keeper.fault_count g.K.Keeper.opened g.K.Keeper.is_within in
    let says : ClaimSays w c.claim.result c.args.core.now c.claim.new.self = record {
      adds = c.claim.ensures.does.adds;
      stands = c.claim.ensures.does.stands;
      any_moment = c.claim.ensures.does.any_moment;
      submitted = c.claim.ensures.does.submitted;
      others = c.claim.ensures.does.others;
      store = c.claim.ensures.does.store;
      down = c.claim.ensures.does.down;
      unchanged = c.claim.ensures.does.unchanged;
      cause = c.claim.ensures.does.cause;
      twice = c.claim.ensures.does.twice;
    } in
    here_later w (claim_events w c.claim.result c.args.core.now c.claim.new.self says) c.args.core.now c.claim.new.self c.work_on.new.core
    (claim_passes w c.claim.result c.args.core.now c.claim.new.self says) (c.claim.ensures.does.up (λ e. let other = sym c.in-Job.is ∙ e in cc) ∙ c.requires.up) c.work_on.result c.work_on.ensures.ends

pub returns-in_default-clause-worked : goal.returns-in_default-clause-worked
returns-in_default-clause-worked g c =
    let w : Sight g.row.D.Denot g.row.K.Denot = sight g.D.Disk.is_told g.D.Disk.seen g.D.Disk.may_leave g.D.Disk.moment g.D.Disk.left_since g.D.Disk.fault_count g.K.Keeper.is_told g.K.Keeper.kept g.K.Keeper.images g.K.Keeper.moment g.K.Keeper.images_since g.K.Keeper.down g.K.Keeper.size g.K.Keeper.fault_count g.K.Keeper.opened g.K.Keeper.is_within in
    let says : ClaimSays w c.claim.result c.args.core.now c.claim.new.self = record {
      adds = c.claim.ensures.does.adds;
      stands = c.claim.ensures.does.stands;
      any_moment = c.claim.ensures.does.any_moment;
      submitted = c.claim.ensures.does.submitted;
      others = c.claim.ensures.does.others;
      store = c.claim.ensures.does.store;
      down = c.claim.ensures.does.down;
      unchanged = c.claim.ensures.does.unchanged;
      cause = c.claim.ensures.does.cause;
      twice = c.claim.ensures.does.twice;
    } in
    claim_works w c.claim.result c.args.core.now c.claim.new.self says

pub returns-in_default-clause-ends : goal.returns-in_default-clause-ends
returns-in_default-clause-ends g c =
    let w : Sight g.row.D.Denot g.row.K.Denot = sight g.D.Disk.is_told g.D.Disk.seen g.D.Disk.may_leave g.D.Disk.moment g.D.Disk.left_since g.D.Disk.fault_count g.K.Keeper.is_told g.K.Keeper.kept g.K.Keeper.images g.K.Keeper.moment g.K.Keeper.images_since g.K.Keeper.down g.K.Keeper.size g.K.Keeper.fault_count g.K.Keeper.opened g.K.Keeper.is_within in
    let says : ClaimSays w c.claim.result c.args.core.now c.claim.new.self = record {
      adds = c.claim.ensures.does.adds;
      stands = c.claim.ensures.does.stands;
      any_moment = c.claim.ensures.does.any_moment;
      submitted = c.claim.ensures.does.submitted;
      others = c.claim.ensures.does.others;
      store = c.claim.ensures.does.store;
      down = c.claim.ensures.does.down;
      unchanged = c.claim.ensures.does.unchanged;
      cause = c.claim.ensures.does.cause;
      twice = c.claim.ensures.does.twice;
    } in
    let answers : ClaimAnswers w c.claim.result c.args.core.now c.claim.new.self = record {
      gives = c.claim.ensures.does.gives;
      nothing = c.claim.ensures.does.nothing;
      waits = c.claim.ensures.does.waits;
      spent = c.claim.ensures.does.spent;
      up = c.claim.ensures.does.up;
    } in
    subst (λ (end : Option WorkEnd). EndsHere w end c.args.core.now c.claim.new.self) (sym c.end_of.ensures)
    (claim_ends w c.args.core.now c.claim.new.self c.requires.up c.claim.result says answers)

pub returns-in-Job-clause-queue_cause : goal.returns-in-Job-clause-queue_cause
returns-in-Job-clause-queue_cause g c =
    let old = c.args.core.now.queue in
    let mid = c.claim.new.self.queue in
    counts_then g.D.Disk.fault_count old mid c.work_on.new.core.queue (counts_calm g.D.Disk.fault_count old mid (λ e. let other = sym c.in-Job.is ∙ e in cc) c.claim.ensures.does.cause) c.work_on.ensures.queue_cause

pub returns-in_default-clause-queue_cause : goal.returns-in_default-clause-queue_cause
returns-in_default-clause-queue_cause g c =
    counts_as g.D.Disk.fault_count c.args.core.now.queue c.claim.new.self.queue (λ e. c.end_of.ensures ∙ ap after_claim e) (λ e. claim_fault c.claim.result (sym c.end_of.ensures ∙ e)) c.claim.ensures.does.cause

pub returns-in-Job-clause-claims : goal.returns-in-Job-clause-claims
returns-in-Job-clause-claims g c =
    let w : Sight g.row.D.Denot g.row.K.Denot = sight g.D.Disk.is_told g.D.Disk.seen g.D.Disk.may_leave g.D.Disk.moment g.D.Disk.left_since g.D.Disk.fault_count g.K.Keeper.is_told g.K.Keeper.kept g.K.Keeper.images g.K.Keeper.moment g.K.Keeper.images_since g.K.Keeper.down g.K.Keeper.size g.K.Keeper.fault_count g.K.Keeper.opened g.K.Keeper.is_within in
    let says : ClaimSays w c.claim.result c.args.core.now c.claim.new.self = record {
      adds = c.claim.ensures.does.adds;
      stands = c.claim.ensures.does.stands;
      any_moment = c.claim.ensures.does.any_moment;
      submitted = c.claim.ensures.does.submitted;
      others = c.claim.ensures.does.others;
      store = c.claim.ensures.does.store;
      down = c.claim.ensures.does.down;
      unchanged = c.claim.ensures.does.unchanged;
      cause = c.claim.ensures.does.cause;
      twice = c.claim.ensures.does.twice;
    } in
    claimed_let_go w c.claim.result c.args.core.now c.claim.new.self says c.in-Job.job c.work_on.new.core c.in-Job.is c.work_on.ensures.lets_go

pub returns-in_default-clause-claims : goal.returns-in_default-clause-claims
returns-in_default-clause-claims g c =
    let w : Sight g.row.D.Denot g.row.K.Denot = sight g.D.Disk.is_told g.D.Disk.seen g.D.Disk.may_leave g.D.Disk.moment g.D.Disk.left_since g.D.Disk.fault_count g.K.Keeper.is_told g.K.Keeper.kept g.K.Keeper.images g.K.Keeper.moment g.K.Keeper.images_since g.K.Keeper.down g.K.Keeper.size g.K.Keeper.fault_count g.K.Keeper.opened g.K.Keeper.is_within in
    let says : ClaimSays w c.claim.result c.args.core.now c.claim.new.self = record {
      adds = c.claim.ensures.does.adds;
      stands = c.claim.ensures.does.stands;
      any_moment = c.claim.ensures.does.any_moment;
      submitted = c.claim.ensures.does.submitted;
      others = c.claim.ensures.does.others;
      store = c.claim.ensures.does.store;
      down = c.claim.ensures.does.down;
      unchanged = c.claim.ensures.does.unchanged;
      cause = c.claim.ensures.does.cause;
      twice = c.claim.ensures.does.twice;
    } in
    claims_none w c.claim.result c.args.core.now c.claim.new.self says c.in_default.not-Job

pub returns-in-Job-clause-last : goal.returns-in-Job-clause-last
returns-in-Job-clause-last g c =
    let w : Sight g.row.D.Denot g.row.K.Denot = sight g.D.Disk.is_told g.D.Disk.seen g.D.Disk.may_leave g.D.Disk.moment g.D.Disk.left_since g.D.Disk.fault_count g.K.Keeper.is_told g.K.Keeper.kept g.K.Keeper.images g.K.Keeper.moment g.K.Keeper.images_since g.K.Keeper.down g.K.Keeper.size g.K.Keeper.fault_count g.K.Keeper.opened g.K.Keeper.is_within in
    let says : ClaimSays w c.claim.result c.args.core.now c.claim.new.self = record {
      adds = c.claim.ensures.does.adds;
      stands = c.claim.ensures.does.stands;
      any_moment = c.claim.ensures.does.any_moment;
      submitted = c.claim.ensures.does.submitted;
      others = c.claim.ensures.does.others;
      store = c.claim.ensures.does.store;
      down = c.claim.ensures.does.down;
      unchanged = c.claim.ensures.does.unchanged;
      cause = c.claim.ensures.does.cause;
      twice = c.claim.ensures.does.twice;
    } in
    turn_later g.D.Disk g.K.Keeper c.args.core.now c.claim.new.self c.work_on.new.core (claim_works w c.claim.result c.args.core.now c.claim.new.self says) c.work_on.result c.work_on.ensures.last

pub returns-in_default-clause-last : goal.returns-in_default-clause-last
returns-in_default-clause-last g c = last_claim g.D.Disk g.K.Keeper c.args.core.now c.claim.new.self c.claim.result c.end_of.result c.end_of.ensures c.claim.ensures.does
