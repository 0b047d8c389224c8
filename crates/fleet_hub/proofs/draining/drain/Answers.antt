use Rattle.std.proofs.Common.{◌∙◌, refl, sym}
use Rattle.core_drain.specs.core_course.Sight.{Sight, sight, sight_of}
use Rattle.core_drain.proofs.Releases.{FreeSays, nothing_works}
use Rattle.core_drain.proofs.Unclaimed.{down_claims_none}
use Rattle.fleet_hub.proofs.Drains.{drain_works, drain_ends, drain_unclaimed, drain_down, drain_last}
use Rattle.fleet_hub.proofs.draining.drain.Goals as goal

pub returns-then-is_down-clause-worked : goal.returns-then-is_down-clause-worked
returns-then-is_down-clause-worked g c =
    let w : Sight g.row.D.Denot g.row.K.Denot = sight g.D.Disk.is_told g.D.Disk.seen g.D.Disk.may_leave g.D.Disk.moment g.D.Disk.left_since g.D.Disk.fault_count g.K.Keeper.is_told g.K.Keeper.kept g.K.Keeper.images g.K.Keeper.moment g.K.Keeper.images_since g.K.Keeper.down g.K.Keeper.size g.K.Keeper.fault_count g.K.Keeper.opened g.K.Keeper.is_within in
    nothing_works w c.args.core c.args.core refl

pub returns-clause-worked : goal.returns-clause-worked
returns-clause-worked g c =
    let w : Sight g.row.D.Denot g.row.K.Denot = sight g.D.Disk.is_told g.D.Disk.seen g.D.Disk.may_leave g.D.Disk.moment g.D.Disk.left_since g.D.Disk.fault_count g.K.Keeper.is_told g.K.Keeper.kept g.K.Keeper.images g.K.Keeper.moment g.K.Keeper.images_since g.K.Keeper.down g.K.Keeper.size g.K.Keeper.fault_count g.K.Keeper.opened g.K.Keeper.is_within in
    let says : FreeSays w c.args.core c.free_claims.new.self = record {
      releases = c.free_claims.ensures.does.releases;
      stands = c.free_claims.ensures.does.stands;
      submitted = c.free_claims.ensures.does.submitted;
      others = c.free_claims.ensures.does.others;
      queue = c.free_claims.ensures.does.queue;
      store = c.free_claims.ensures.does.store;
    } in
    drain_works w c.finish-end.result c.args.core c.free_claims.new.self c.work_all-core.result c.finish-end.new.core says (sym c.is_down.ensures ∙ c.if-is_down.false) c.work_all-core.ensures c.finish-end.ensures.finished

pub returns-clause-ends : goal.returns-clause-ends
returns-clause-ends g c =
    let w : Sight g.row.D.Denot g.row.K.Denot = sight g.D.Disk.is_told g.D.Disk.seen g.D.Disk.may_leave g.D.Disk.moment g.D.Disk.left_since g.D.Disk.fault_count g.K.Keeper.is_told g.K.Keeper.kept g.K.Keeper.images g.K.Keeper.moment g.K.Keeper.images_since g.K.Keeper.down g.K.Keeper.size g.K.Keeper.fault_count g.K.Keeper.opened g.K.Keeper.is_within in
    let says : FreeSays w c.args.core c.free_claims.new.self = record {
      releases = c.free_claims.ensures.does.releases;
      stands = c.free_claims.ensures.does.stands;
      submitted = c.free_claims.ensures.does.submitted;
      others = c.free_claims.ensures.does.others;
      queue = c.free_claims.ensures.does.queue;
      store = c.free_claims.ensures.does.store;
    } in
    drain_ends w c.finish-end.result c.args.core c.free_claims.new.self c.work_all-core.result c.finish-end.new.core says (sym c.is_down.ensures ∙ c.if-is_down.false) c.work_all-core.ensures c.finish-end.ensures.finished

pub returns-then-is_down-clause-unclaimed : goal.returns-then-is_down-clause-unclaimed
returns-then-is_down-clause-unclaimed g c =
    let w : Sight g.row.D.Denot g.row.K.Denot = sight g.D.Disk.is_told g.D.Disk.seen g.D.Disk.may_leave g.D.Disk.moment g.D.Disk.left_since g.D.Disk.fault_count g.K.Keeper.is_told g.K.Keeper.kept g.K.Keeper.images g.K.Keeper.moment g.K.Keeper.images_since g.K.Keeper.down g.K.Keeper.size g.K.Keeper.fault_count g.K.Keeper.opened g.K.Keeper.is_within in
    down_claims_none w c.args.core c.args.core (sym c.is_down.ensures ∙ c.if-is_down.true)

pub returns-clause-unclaimed : goal.returns-clause-unclaimed
returns-clause-unclaimed g c =
    let w : Sight g.row.D.Denot g.row.K.Denot = sight g.D.Disk.is_told g.D.Disk.seen g.D.Disk.may_leave g.D.Disk.moment g.D.Disk.left_since g.D.Disk.fault_count g.K.Keeper.is_told g.K.Keeper.kept g.K.Keeper.images g.K.Keeper.moment g.K.Keeper.images_since g.K.Keeper.down g.K.Keeper.size g.K.Keeper.fault_count g.K.Keeper.opened g.K.Keeper.is_within in
    let says : FreeSays w c.args.core c.free_claims.new.self = record {
      releases = c.free_claims.ensures.does.releases;
      stands = c.free_claims.ensures.does.stands;
      submitted = c.free_claims.ensures.does.submitted;
      others = c.free_claims.ensures.does.others;
      queue = c.free_claims.ensures.does.queue;
      store = c.free_claims.ensures.does.store;
    } in
    drain_unclaimed w c.finish-end.result c.args.core c.free_claims.new.self c.work_all-core.result c.finish-end.new.core says (sym c.is_down.ensures ∙ c.if-is_down.false) c.work_all-core.ensures c.finish-end.ensures.finished

pub returns-clause-down : goal.returns-clause-down
returns-clause-down g c =
    let w : Sight g.row.D.Denot g.row.K.Denot = sight g.D.Disk.is_told g.D.Disk.seen g.D.Disk.may_leave g.D.Disk.moment g.D.Disk.left_since g.D.Disk.fault_count g.K.Keeper.is_told g.K.Keeper.kept g.K.Keeper.images g.K.Keeper.moment g.K.Keeper.images_since g.K.Keeper.down g.K.Keeper.size g.K.Keeper.fault_count g.K.Keeper.opened g.K.Keeper.is_within in
    let says : FreeSays w c.args.core c.free_claims.new.self = record {
      releases = c.free_claims.ensures.does.releases;
      stands = c.free_claims.ensures.does.stands;
      submitted = c.free_claims.ensures.does.submitted;
      others = c.free_claims.ensures.does.others;
      queue = c.free_claims.ensures.does.queue;
      store = c.free_claims.ensures.does.store;
    } in
    drain_down w c.finish-end.result c.args.core c.free_claims.new.self c.work_all-core.result c.finish-end.new.core says (sym c.is_down.ensures ∙ c.if-is_down.false) c.work_all-core.ensures c.finish-end.ensures.finished

pub returns-clause-last : goal.returns-clause-last
returns-clause-last g c =
    let says : FreeSays (sight_of g.D.Disk g.K.Keeper) c.args.core c.free_claims.new.self = record {
      releases = c.free_claims.ensures.does.releases;
      stands = c.free_claims.ensures.does.stands;
      submitted = c.free_claims.ensures.does.submitted;
      others = c.free_claims.ensures.does.others;
      queue = c.free_claims.ensures.does.queue;
      store = c.free_claims.ensures.does.store;
    } in
    drain_last g.D.Disk g.K.Keeper c.finish-end.result c.args.core c.free_claims.new.self c.work_all-core.result c.finish-end.new.core says c.work_all-core.ensures c.finish-end.ensures.finished c.finish-end.ensures.last
