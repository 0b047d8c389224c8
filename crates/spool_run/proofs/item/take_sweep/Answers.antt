use Rattle.std.proofs.Common.{refl}
use Rattle.fleet_hub.specs.core_course.Sight.{Sight, sight}
use Rattle.fleet_hub.specs.core_sweeps.declared.answers.Swept.TheVariants as swept
use Rattle.fleet_hub.proofs.of_core_drain.Sweeps.{SweepSays}
use Rattle.spool_run.proofs.SweptImages.{may_have_swept}
use Rattle.spool_run.proofs.Calls.{swept_all, store_failed, store_went, sweep_spent, sweep_starved}
use Rattle.spool_run.proofs.item.take_sweep.Goals as goal

pub returns-in-Ok : goal.returns-in-Ok
returns-in-Ok g c =
    let w : Sight g.row.D.Denot g.row.K.Denot = sight g.D.Disk.is_told g.D.Disk.seen g.D.Disk.may_leave g.D.Disk.moment g.D.Disk.left_since g.D.Disk.fault_count g.K.Keeper.is_told g.K.Keeper.kept g.K.Keeper.images g.K.Keeper.moment g.K.Keeper.images_since g.K.Keeper.down g.K.Keeper.size g.K.Keeper.fault_count g.K.Keeper.opened g.K.Keeper.is_within in
    swept_all w c.args.kinds c.args.m c.args.core.now c.sweep.new.self c.requires.up c.in-Ok.ensures.does.pending (record { adds = c.in-Ok.ensures.does.adds; writes = c.in-Ok.ensures.does.writes; stands = c.in-Ok.ensures.does.stands; any_moment = c.in-Ok.ensures.does.any_moment; submitted = c.in-Ok.ensures.does.submitted; opening = c.in-Ok.ensures.does.opening; same_opening = c.in-Ok.ensures.does.keeper.same_opening; bounds = c.in-Ok.ensures.does.keeper.bounds; queue = c.in-Ok.ensures.does.queue; down = c.in-Ok.ensures.does.down; unchanged = c.in-Ok.ensures.does.unchanged; cause = c.in-Ok.ensures.does.cause }) (c.in-Ok.ensures.does.up (λ e. cc))

pub returns-in-StoreFault : goal.returns-in-StoreFault
returns-in-StoreFault g c =
    let w : Sight g.row.D.Denot g.row.K.Denot = sight g.D.Disk.is_told g.D.Disk.seen g.D.Disk.may_leave g.D.Disk.moment g.D.Disk.left_since g.D.Disk.fault_count g.K.Keeper.is_told g.K.Keeper.kept g.K.Keeper.images g.K.Keeper.moment g.K.Keeper.images_since g.K.Keeper.down g.K.Keeper.size g.K.Keeper.fault_count g.K.Keeper.opened g.K.Keeper.is_within in
    store_failed w c.args.kinds c.args.m c.args.core.now c.sweep.new.self c.requires.up c.in-StoreFault.ensures.does.pending (record { adds = c.in-StoreFault.ensures.does.adds; writes = c.in-StoreFault.ensures.does.writes; stands = c.in-StoreFault.ensures.does.stands; any_moment = c.in-StoreFault.ensures.does.any_moment; submitted = c.in-StoreFault.ensures.does.submitted; opening = c.in-StoreFault.ensures.does.opening; same_opening = c.in-StoreFault.ensures.does.keeper.same_opening; bounds = c.in-StoreFault.ensures.does.keeper.bounds; queue = c.in-StoreFault.ensures.does.queue; down = c.in-StoreFault.ensures.does.down; unchanged = c.in-StoreFault.ensures.does.unchanged; cause = c.in-StoreFault.ensures.does.cause }) (c.in-StoreFault.ensures.does.up (λ e. cc)) c.in-StoreFault.ensures.does.unspent

pub returns-in-StoreDown : goal.returns-in-StoreDown
returns-in-StoreDown g c =
    let w : Sight g.row.D.Denot g.row.K.Denot = sight g.D.Disk.is_told g.D.Disk.seen g.D.Disk.may_leave g.D.Disk.moment g.D.Disk.left_since g.D.Disk.fault_count g.K.Keeper.is_told g.K.Keeper.kept g.K.Keeper.images g.K.Keeper.moment g.K.Keeper.images_since g.K.Keeper.down g.K.Keeper.size g.K.Keeper.fault_count g.K.Keeper.opened g.K.Keeper.is_within in
    let says : SweepSays w swept.StoreDown c.args.kinds c.args.m c.args.core.now c.sweep.new.self = record { adds = c.in-StoreDown.ensures.does.adds; writes = c.in-StoreDown.ensures.does.writes; stands = c.in-StoreDown.ensures.does.stands; any_moment = c.in-StoreDown.ensures.does.any_moment; submitted = c.in-StoreDown.ensures.does.submitted; opening = c.in-StoreDown.ensures.does.opening; same_opening = c.in-StoreDown.ensures.does.keeper.same_opening; bounds = c.in-StoreDown.ensures.does.keeper.bounds; queue = c.in-StoreDown.ensures.does.queue; down = c.in-StoreDown.ensures.does.down; unchanged = c.in-StoreDown.ensures.does.unchanged; cause = c.in-StoreDown.ensures.does.cause } in
    store_went w c.args.kinds c.args.m c.args.core.now c.sweep.new.self c.requires.up c.in-StoreDown.ensures.does.pending says (c.in-StoreDown.ensures.does.twice refl) ((c.in-StoreDown.ensures.does.store_down c.requires.up).1 refl) (may_have_swept w g.met.D.Disk.counts_now c.args.kinds c.args.m c.args.core.now c.sweep.new.self c.requires.up says)

pub returns-in-Spent : goal.returns-in-Spent
returns-in-Spent g c =
    let w : Sight g.row.D.Denot g.row.K.Denot = sight g.D.Disk.is_told g.D.Disk.seen g.D.Disk.may_leave g.D.Disk.moment g.D.Disk.left_since g.D.Disk.fault_count g.K.Keeper.is_told g.K.Keeper.kept g.K.Keeper.images g.K.Keeper.moment g.K.Keeper.images_since g.K.Keeper.down g.K.Keeper.size g.K.Keeper.fault_count g.K.Keeper.opened g.K.Keeper.is_within in
    sweep_spent w c.args.kinds c.args.m c.args.core.now c.sweep.new.self c.requires.up c.in-Spent.ensures.does.pending (record { adds = c.in-Spent.ensures.does.adds; writes = c.in-Spent.ensures.does.writes; stands = c.in-Spent.ensures.does.stands; any_moment = c.in-Spent.ensures.does.any_moment; submitted = c.in-Spent.ensures.does.submitted; opening = c.in-Spent.ensures.does.opening; same_opening = c.in-Spent.ensures.does.keeper.same_opening; bounds = c.in-Spent.ensures.does.keeper.bounds; queue = c.in-Spent.ensures.does.queue; down = c.in-Spent.ensures.does.down; unchanged = c.in-Spent.ensures.does.unchanged; cause = c.in-Spent.ensures.does.cause }) (c.in-Spent.ensures.does.up (λ e. cc)) (c.in-Spent.ensures.does.stays tt) (c.in-Spent.ensures.does.spent refl)

pub returns-in-Memory : goal.returns-in-Memory
returns-in-Memory g c =
    let w : Sight g.row.D.Denot g.row.K.Denot = sight g.D.Disk.is_told g.D.Disk.seen g.D.Disk.may_leave g.D.Disk.moment g.D.Disk.left_since g.D.Disk.fault_count g.K.Keeper.is_told g.K.Keeper.kept g.K.Keeper.images g.K.Keeper.moment g.K.Keeper.images_since g.K.Keeper.down g.K.Keeper.size g.K.Keeper.fault_count g.K.Keeper.opened g.K.Keeper.is_within in
    sweep_starved w c.args.kinds c.args.m c.args.core.now c.sweep.new.self c.requires.up c.in-Memory.ensures.does.pending (record { adds = c.in-Memory.ensures.does.adds; writes = c.in-Memory.ensures.does.writes; stands = c.in-Memory.ensures.does.stands; any_moment = c.in-Memory.ensures.does.any_moment; submitted = c.in-Memory.ensures.does.submitted; opening = c.in-Memory.ensures.does.opening; same_opening = c.in-Memory.ensures.does.keeper.same_opening; bounds = c.in-Memory.ensures.does.keeper.bounds; queue = c.in-Memory.ensures.does.queue; down = c.in-Memory.ensures.does.down; unchanged = c.in-Memory.ensures.does.unchanged; cause = c.in-Memory.ensures.does.cause }) (c.in-Memory.ensures.does.up (λ e. cc))
