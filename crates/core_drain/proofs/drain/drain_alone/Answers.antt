use Rattle.std.proofs.Common.{◌∙◌, false, Some, refl, ap, sym}
use Rattle.core_ends.specs.core_course.Sight.{Sight, sight}
use Rattle.core_ends.proofs.of_core_course.Stretches.{worked_on}
use Rattle.core_ends.proofs.Releases.{FreeSays, free_claims_works, free_claims_down, nothing_works}
use Rattle.core_ends.specs.declared.ends.WorkEnd.{WorkEnd}
use Rattle.core_drain.proofs.Calm.{counts_as, counts_calm, counts_still, counts_then, end_fault}
use Rattle.core_ends.proofs.Later.{here_later, ends_so}
use Rattle.core_drain.proofs.Unclaimed.{freed_claims_none, still_none, down_claims_none}
use Rattle.core_drain.proofs.LastCall.{by_call_later}
use Rattle.core_drain.proofs.drain.drain_alone.Goals as goal

pub turns-init : goal.turns-init
turns-init g c =
    let w : Sight g.row.D.Denot g.row.K.Denot = sight g.D.Disk.is_told g.D.Disk.seen g.D.Disk.may_leave g.D.Disk.moment g.D.Disk.left_since g.D.Disk.fault_count g.K.Keeper.is_told g.K.Keeper.kept g.K.Keeper.images g.K.Keeper.moment g.K.Keeper.images_since g.K.Keeper.down g.K.Keeper.size g.K.Keeper.fault_count g.K.Keeper.opened g.K.Keeper.is_within in
    let says : FreeSays w c.args.core.now c.free_claims.new.self = record {
      releases = c.free_claims.ensures.does.releases;
      stands = c.free_claims.ensures.does.stands;
      submitted = c.free_claims.ensures.does.submitted;
      others = c.free_claims.ensures.does.others;
      queue = c.free_claims.ensures.does.queue;
      store = c.free_claims.ensures.does.store;
    } in
    record {
      worked = free_claims_works w c.args.core.now c.free_claims.new.self says;
      up = free_claims_down w c.args.core.now c.free_claims.new.self says ∙ (sym c.is_down.ensures ∙ c.if-is_down.false);
      calm = counts_still g.D.Disk.fault_count c.args.core.now.queue c.free_claims.new.self.queue c.free_claims.ensures.does.queue (λ f. f);
      unclaimed = freed_claims_none w c.args.core.now c.free_claims.new.self c.free_claims.ensures.does.none c.free_claims.ensures.does.stands;
    }

pub returns-then-is_down-clause-worked : goal.returns-then-is_down-clause-worked
returns-then-is_down-clause-worked g c =
    let w : Sight g.row.D.Denot g.row.K.Denot = sight g.D.Disk.is_told g.D.Disk.seen g.D.Disk.may_leave g.D.Disk.moment g.D.Disk.left_since g.D.Disk.fault_count g.K.Keeper.is_told g.K.Keeper.kept g.K.Keeper.images g.K.Keeper.moment g.K.Keeper.images_since g.K.Keeper.down g.K.Keeper.size g.K.Keeper.fault_count g.K.Keeper.opened g.K.Keeper.is_within in
    nothing_works w c.args.core.now c.args.core.now refl

pub returns-in-Some-clause-worked : goal.returns-in-Some-clause-worked
returns-in-Some-clause-worked g c =
    let w : Sight g.row.D.Denot g.row.K.Denot = sight g.D.Disk.is_told g.D.Disk.seen g.D.Disk.may_leave g.D.Disk.moment g.D.Disk.left_since g.D.Disk.fault_count g.K.Keeper.is_told g.K.Keeper.kept g.K.Keeper.images g.K.Keeper.moment g.K.Keeper.images_since g.K.Keeper.down g.K.Keeper.size g.K.Keeper.fault_count g.K.Keeper.opened g.K.Keeper.is_within in
    worked_on w c.args.core.now c.turns.core c.turn.new.core c.turns.invariant.worked c.turn.ensures.worked

pub returns-in-Some-clause-ends : goal.returns-in-Some-clause-ends
returns-in-Some-clause-ends g c =
    let w : Sight g.row.D.Denot g.row.K.Denot = sight g.D.Disk.is_told g.D.Disk.seen g.D.Disk.may_leave g.D.Disk.moment g.D.Disk.left_since g.D.Disk.fault_count g.K.Keeper.is_told g.K.Keeper.kept g.K.Keeper.images g.K.Keeper.moment g.K.Keeper.images_since g.K.Keeper.down g.K.Keeper.size g.K.Keeper.fault_count g.K.Keeper.opened g.K.Keeper.is_within in
    ends_so w c.in-Some.end c.args.core.now c.turn.new.core
    (here_later w c.turns.invariant.worked.more c.args.core.now c.turns.core c.turn.new.core c.turns.invariant.worked.passed c.turns.invariant.up (Some c.in-Some.end) c.in-Some.ensures.ends)

pub turns-preserved : goal.turns-preserved
turns-preserved g c =
    let w : Sight g.row.D.Denot g.row.K.Denot = sight g.D.Disk.is_told g.D.Disk.seen g.D.Disk.may_leave g.D.Disk.moment g.D.Disk.left_since g.D.Disk.fault_count g.K.Keeper.is_told g.K.Keeper.kept g.K.Keeper.images g.K.Keeper.moment g.K.Keeper.images_since g.K.Keeper.down g.K.Keeper.size g.K.Keeper.fault_count g.K.Keeper.opened g.K.Keeper.is_within in
    record {
      worked = worked_on w c.args.core.now c.turns.core c.turn.new.core c.turns.invariant.worked c.turn.ensures.worked;
      up = c.in_default.ensures.ends;
      calm = counts_then g.D.Disk.fault_count c.args.core.now.queue c.turns.core.queue c.turn.new.core.queue c.turns.invariant.calm
          (counts_calm g.D.Disk.fault_count c.turns.core.queue c.turn.new.core.queue (λ e. cc) c.in_default.ensures.queue_cause);
      unclaimed = still_none w c.args.core.now c.turns.core c.turn.new.core c.turns.invariant.up c.turns.invariant.worked c.turns.invariant.unclaimed c.turn.ensures.claims;
    }

pub returns-then-is_down-clause-queue_cause : goal.returns-then-is_down-clause-queue_cause
returns-then-is_down-clause-queue_cause g c = counts_still g.D.Disk.fault_count c.args.core.now.queue c.args.core.now.queue refl (λ e. cc)

pub returns-in-Some-clause-queue_cause : goal.returns-in-Some-clause-queue_cause
returns-in-Some-clause-queue_cause g c =
    counts_then g.D.Disk.fault_count c.args.core.now.queue c.turns.core.queue c.turn.new.core.queue c.turns.invariant.calm
    (counts_as g.D.Disk.fault_count c.turns.core.queue c.turn.new.core.queue (end_fault c.in-Some.end) (λ e. ap (λ (x : WorkEnd). Some x) e) c.in-Some.ensures.queue_cause)

pub returns-clause-queue_cause : goal.returns-clause-queue_cause
returns-clause-queue_cause g c = counts_as g.D.Disk.fault_count c.args.core.now.queue c.turns.core.queue (λ f. absurd f) (λ e. cc) c.turns.invariant.calm

pub returns-then-is_down-clause-unclaimed : goal.returns-then-is_down-clause-unclaimed
returns-then-is_down-clause-unclaimed g c =
    let w : Sight g.row.D.Denot g.row.K.Denot = sight g.D.Disk.is_told g.D.Disk.seen g.D.Disk.may_leave g.D.Disk.moment g.D.Disk.left_since g.D.Disk.fault_count g.K.Keeper.is_told g.K.Keeper.kept g.K.Keeper.images g.K.Keeper.moment g.K.Keeper.images_since g.K.Keeper.down g.K.Keeper.size g.K.Keeper.fault_count g.K.Keeper.opened g.K.Keeper.is_within in
    down_claims_none w c.args.core.now c.args.core.now (sym c.is_down.ensures ∙ c.if-is_down.true)

pub returns-in-Some-clause-unclaimed : goal.returns-in-Some-clause-unclaimed
returns-in-Some-clause-unclaimed g c =
    let w : Sight g.row.D.Denot g.row.K.Denot = sight g.D.Disk.is_told g.D.Disk.seen g.D.Disk.may_leave g.D.Disk.moment g.D.Disk.left_since g.D.Disk.fault_count g.K.Keeper.is_told g.K.Keeper.kept g.K.Keeper.images g.K.Keeper.moment g.K.Keeper.images_since g.K.Keeper.down g.K.Keeper.size g.K.Keeper.fault_count g.K.Keeper.opened g.K.Keeper.is_within in
    still_none w c.args.core.now c.turns.core c.turn.new.core c.turns.invariant.up c.turns.invariant.worked c.turns.invariant.unclaimed c.turn.ensures.claims

pub returns-in-Some-clause-last : goal.returns-in-Some-clause-last
returns-in-Some-clause-last g c = by_call_later g.D.Disk g.K.Keeper c.args.core.now c.turns.core c.turn.new.core c.turns.invariant.worked c.in-Some.end c.in-Some.ensures.last
