use Rattle.std.proofs.Common.{◌∙◌, Option, Some, ap, sym, subst}
use Rattle.core_ends.specs.core_course.Sight.{Sight, sight}
use Rattle.core_ends.proofs.of_core_course.Stretches.{worked_on}
use Rattle.core_ends.proofs.Settles.{SettleSays, settle_works}
use Rattle.core_ends.specs.Ends.{EndsHere}
use Rattle.core_ends.specs.Answers.{after_settle}
use Rattle.core_ends.specs.declared.ends.WorkEnd.{WorkEnd}
use Rattle.core_drain.proofs.Calm.{counts_as, counts_calm, counts_still, counts_then, settle_fault, memory_is_calm}
use Rattle.core_ends.proofs.SettleEnds.{SettleAnswers, settle_ends}
use Rattle.core_drain.proofs.Unclaimed.{settle_lets_go, given_let_go}
use Rattle.core_drain.proofs.LastCall.{last_settle, memory_ends}
use Rattle.core_drain.proofs.work.settle_as.Goals as goal

pub give_back-requires : goal.give_back-requires
give_back-requires g c =
    record { up = c.settle.ensures.does.up (λ e. let other = sym c.in-Memory.is ∙ e in cc) (λ e. let other = sym c.in-Memory.is ∙ e in cc) ∙ c.requires.up }

pub returns-in-Memory-clause-worked : goal.returns-in-Memory-clause-worked
returns-in-Memory-clause-worked g c =
    let w : Sight g.row.D.Denot g.row.K.Denot = sight g.D.Disk.is_told g.D.Disk.seen g.D.Disk.may_leave g.D.Disk.moment g.D.Disk.left_since g.D.Disk.fault_count g.K.Keeper.is_told g.K.Keeper.kept g.K.Keeper.images g.K.Keeper.moment g.K.Keeper.images_since g.K.Keeper.down g.K.Keeper.size g.K.Keeper.fault_count g.K.Keeper.opened g.K.Keeper.is_within in
    let says : SettleSays w c.settle.result c.args.job c.args.verdict c.args.core.now c.settle.new.self = record {
      adds = c.settle.ensures.does.adds;
      queue_writes = c.settle.ensures.does.queue_writes;
      store_writes = c.settle.ensures.does.store_writes;
      stands = c.settle.ensures.does.stands;
      any_moment = c.settle.ensures.does.any_moment;
      kept_submitted = c.settle.ensures.does.kept_submitted;
      opening = c.settle.ensures.does.opening;
      same_opening = c.settle.ensures.does.keeper.same_opening;
      bounds = c.settle.ensures.does.keeper.bounds;
      down = c.settle.ensures.does.down;
      leaves = c.settle.ensures.does.leaves;
      cause = c.settle.ensures.does.cause;
      twice = c.settle.ensures.does.twice;
      store_later = c.settle.ensures.does.store_later;
    } in
    worked_on w c.args.core.now c.settle.new.self c.give_back.new.core (settle_works w c.settle.result c.args.job c.args.verdict c.args.core.now c.settle.new.self c.requires.submitted c.requires.decodes says) c.give_back.ensures.worked

pub returns-in-Memory-clause-ends : goal.returns-in-Memory-clause-ends
returns-in-Memory-clause-ends g c =
    let w : Sight g.row.D.Denot g.row.K.Denot = sight g.D.Disk.is_told g.D.Disk.seen g.D.Disk.may_leave g.D.Disk.moment g.D.Disk.left_since g.D.Disk.fault_count g.K.Keeper.is_told g.K.Keeper.kept g.K.Keeper.images g.K.Keeper.moment g.K.Keeper.images_since g.K.Keeper.down g.K.Keeper.size g.K.Keeper.fault_count g.K.Keeper.opened g.K.Keeper.is_within in
    subst (λ (end : WorkEnd). EndsHere w (Some end) c.args.core.now c.give_back.new.core) (sym c.give_back.ensures.memory) c.give_back.ensures.up

pub returns-in_default-clause-worked : goal.returns-in_default-clause-worked
returns-in_default-clause-worked g c =
    let w : Sight g.row.D.Denot g.row.K.Denot = sight g.D.Disk.is_told g.D.Disk.seen g.D.Disk.may_leave g.D.Disk.moment g.D.Disk.left_since g.D.Disk.fault_count g.K.Keeper.is_told g.K.Keeper.kept g.K.Keeper.images g.K.Keeper.moment g.K.Keeper.images_since g.K.Keeper.down g.K.Keeper.size g.K.Keeper.fault_count g.K.Keeper.opened g.K.Keeper.is_within in
    let says : SettleSays w c.settle.result c.args.job c.args.verdict c.args.core.now c.settle.new.self = record {
      adds = c.settle.ensures.does.adds;
      queue_writes = c.settle.ensures.does.queue_writes;
      store_writes = c.settle.ensures.does.store_writes;
      stands = c.settle.ensures.does.stands;
      any_moment = c.settle.ensures.does.any_moment;
      kept_submitted = c.settle.ensures.does.kept_submitted;
      opening = c.settle.ensures.does.opening;
      same_opening = c.settle.ensures.does.keeper.same_opening;
      bounds = c.settle.ensures.does.keeper.bounds;
      down = c.settle.ensures.does.down;
      leaves = c.settle.ensures.does.leaves;
      cause = c.settle.ensures.does.cause;
      twice = c.settle.ensures.does.twice;
      store_later = c.settle.ensures.does.store_later;
    } in
    settle_works w c.settle.result c.args.job c.args.verdict c.args.core.now c.settle.new.self c.requires.submitted c.requires.decodes says

pub returns-in_default-clause-ends : goal.returns-in_default-clause-ends
returns-in_default-clause-ends g c =
    let w : Sight g.row.D.Denot g.row.K.Denot = sight g.D.Disk.is_told g.D.Disk.seen g.D.Disk.may_leave g.D.Disk.moment g.D.Disk.left_since g.D.Disk.fault_count g.K.Keeper.is_told g.K.Keeper.kept g.K.Keeper.images g.K.Keeper.moment g.K.Keeper.images_since g.K.Keeper.down g.K.Keeper.size g.K.Keeper.fault_count g.K.Keeper.opened g.K.Keeper.is_within in
    let says : SettleSays w c.settle.result c.args.job c.args.verdict c.args.core.now c.settle.new.self = record {
      adds = c.settle.ensures.does.adds;
      queue_writes = c.settle.ensures.does.queue_writes;
      store_writes = c.settle.ensures.does.store_writes;
      stands = c.settle.ensures.does.stands;
      any_moment = c.settle.ensures.does.any_moment;
      kept_submitted = c.settle.ensures.does.kept_submitted;
      opening = c.settle.ensures.does.opening;
      same_opening = c.settle.ensures.does.keeper.same_opening;
      bounds = c.settle.ensures.does.keeper.bounds;
      down = c.settle.ensures.does.down;
      leaves = c.settle.ensures.does.leaves;
      cause = c.settle.ensures.does.cause;
      twice = c.settle.ensures.does.twice;
      store_later = c.settle.ensures.does.store_later;
    } in
    let answers : SettleAnswers w c.settle.result c.args.job c.args.verdict c.args.core.now c.settle.new.self = record {
      not_claimed = c.settle.ensures.does.not_claimed;
      waits = c.settle.ensures.does.waits;
      refusals = c.settle.ensures.does.refusals;
      store_cause = c.settle.ensures.does.store_cause;
      store_down = c.settle.ensures.does.store_down;
      up = c.settle.ensures.does.up;
      twice = c.settle.ensures.does.twice;
      each_image = c.settle.ensures.does.each_image;
    } in
    subst (λ (end : Option WorkEnd). EndsHere w end c.args.core.now c.settle.new.self) (sym c.end_of_settle.ensures)
    (settle_ends w c.args.job c.args.verdict c.args.core.now c.settle.new.self c.requires.submitted c.requires.decodes c.requires.fit c.requires.up c.settle.result says answers)

pub returns-in-Memory-clause-queue_cause : goal.returns-in-Memory-clause-queue_cause
returns-in-Memory-clause-queue_cause g c =
    let old = c.args.core.now.queue in
    let mid = c.settle.new.self.queue in
    let new = c.give_back.new.core.queue in
    counts_then g.D.Disk.fault_count old mid new (counts_calm g.D.Disk.fault_count old mid (λ e. let other = sym c.in-Memory.is ∙ e in cc) c.settle.ensures.does.cause)
    (counts_still g.D.Disk.fault_count mid new c.give_back.ensures.queue (memory_is_calm c.give_back.result c.give_back.ensures.memory))

pub returns-in_default-clause-queue_cause : goal.returns-in_default-clause-queue_cause
returns-in_default-clause-queue_cause g c =
    counts_as g.D.Disk.fault_count c.args.core.now.queue c.settle.new.self.queue (λ e. c.end_of_settle.ensures ∙ ap after_settle e) (λ e. settle_fault c.settle.result (sym c.end_of_settle.ensures ∙ e)) c.settle.ensures.does.cause

pub returns-in-Memory-clause-lets_go : goal.returns-in-Memory-clause-lets_go
returns-in-Memory-clause-lets_go g c =
    let w : Sight g.row.D.Denot g.row.K.Denot = sight g.D.Disk.is_told g.D.Disk.seen g.D.Disk.may_leave g.D.Disk.moment g.D.Disk.left_since g.D.Disk.fault_count g.K.Keeper.is_told g.K.Keeper.kept g.K.Keeper.images g.K.Keeper.moment g.K.Keeper.images_since g.K.Keeper.down g.K.Keeper.size g.K.Keeper.fault_count g.K.Keeper.opened g.K.Keeper.is_within in
    given_let_go w c.settle.result c.args.job c.args.verdict c.args.core.now c.settle.new.self c.in-Memory.job c.in-Memory.field-1 c.give_back.new.core c.in-Memory.is c.settle.ensures.does.leaves c.settle.ensures.does.stands c.give_back.ensures.lets_go

pub returns-in_default-clause-lets_go : goal.returns-in_default-clause-lets_go
returns-in_default-clause-lets_go g c =
    let w : Sight g.row.D.Denot g.row.K.Denot = sight g.D.Disk.is_told g.D.Disk.seen g.D.Disk.may_leave g.D.Disk.moment g.D.Disk.left_since g.D.Disk.fault_count g.K.Keeper.is_told g.K.Keeper.kept g.K.Keeper.images g.K.Keeper.moment g.K.Keeper.images_since g.K.Keeper.down g.K.Keeper.size g.K.Keeper.fault_count g.K.Keeper.opened g.K.Keeper.is_within in
    settle_lets_go w c.settle.result c.args.job c.args.verdict c.args.core.now c.settle.new.self c.requires.up c.in_default.not-Memory c.settle.ensures.does.down c.settle.ensures.does.store_down c.settle.ensures.does.gives

pub returns-in-Memory-clause-last : goal.returns-in-Memory-clause-last
returns-in-Memory-clause-last g c = memory_ends g.D.Disk g.K.Keeper c.args.core.now c.give_back.new.core c.give_back.result c.give_back.ensures.memory

pub returns-in_default-clause-last : goal.returns-in_default-clause-last
returns-in_default-clause-last g c = last_settle g.D.Disk g.K.Keeper c.args.core.now c.settle.new.self c.settle.result c.args.job c.args.verdict c.end_of_settle.result c.end_of_settle.ensures c.settle.ensures.does
