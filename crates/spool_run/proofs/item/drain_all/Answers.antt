use Rattle.std.proofs.Common.{◌≡◌, true, false, sym, subst, ◌∙◌}
use Rattle.fleet_hub.specs.core_course.Sight.{Sight, sight}
use Rattle.fleet_hub.specs.core_drain.core_ends.declared.ends.WorkEnd.{WorkEnd}
use Rattle.fleet_hub.specs.core_drain.Ends.{EndsSo}
use Rattle.spool_run.proofs.item.drain_all.Goals as goal

pub returns-in-Done-clause-drained : goal.returns-in-Done-clause-drained
returns-in-Done-clause-drained g c =
    let w : Sight g.row.D.Denot g.row.K.Denot = sight g.D.Disk.is_told g.D.Disk.seen g.D.Disk.may_leave g.D.Disk.moment g.D.Disk.left_since g.D.Disk.fault_count g.K.Keeper.is_told g.K.Keeper.kept g.K.Keeper.images g.K.Keeper.moment g.K.Keeper.images_since g.K.Keeper.down g.K.Keeper.size g.K.Keeper.fault_count g.K.Keeper.opened g.K.Keeper.is_within in
    subst (λ (e : WorkEnd). EndsSo w e c.args.core c.drain-core.result.core) c.in-Done.is c.drain-core.ensures.ends

pub returns-in-QueueFault-clause-drained : goal.returns-in-QueueFault-clause-drained
returns-in-QueueFault-clause-drained g c =
    let w : Sight g.row.D.Denot g.row.K.Denot = sight g.D.Disk.is_told g.D.Disk.seen g.D.Disk.may_leave g.D.Disk.moment g.D.Disk.left_since g.D.Disk.fault_count g.K.Keeper.is_told g.K.Keeper.kept g.K.Keeper.images g.K.Keeper.moment g.K.Keeper.images_since g.K.Keeper.down g.K.Keeper.size g.K.Keeper.fault_count g.K.Keeper.opened g.K.Keeper.is_within in
    subst (λ (e : WorkEnd). EndsSo w e c.args.core c.drain-core.result.core) c.in-QueueFault.is c.drain-core.ensures.ends

pub returns-in-StoreDown-clause-drained : goal.returns-in-StoreDown-clause-drained
returns-in-StoreDown-clause-drained g c =
    let w : Sight g.row.D.Denot g.row.K.Denot = sight g.D.Disk.is_told g.D.Disk.seen g.D.Disk.may_leave g.D.Disk.moment g.D.Disk.left_since g.D.Disk.fault_count g.K.Keeper.is_told g.K.Keeper.kept g.K.Keeper.images g.K.Keeper.moment g.K.Keeper.images_since g.K.Keeper.down g.K.Keeper.size g.K.Keeper.fault_count g.K.Keeper.opened g.K.Keeper.is_within in
    subst (λ (e : WorkEnd). EndsSo w e c.args.core c.drain-core.result.core) c.in-StoreDown.is c.drain-core.ensures.ends

pub returns-in-Spent-clause-drained : goal.returns-in-Spent-clause-drained
returns-in-Spent-clause-drained g c =
    let w : Sight g.row.D.Denot g.row.K.Denot = sight g.D.Disk.is_told g.D.Disk.seen g.D.Disk.may_leave g.D.Disk.moment g.D.Disk.left_since g.D.Disk.fault_count g.K.Keeper.is_told g.K.Keeper.kept g.K.Keeper.images g.K.Keeper.moment g.K.Keeper.images_since g.K.Keeper.down g.K.Keeper.size g.K.Keeper.fault_count g.K.Keeper.opened g.K.Keeper.is_within in
    subst (λ (e : WorkEnd). EndsSo w e c.args.core c.drain-core.result.core) c.in-Spent.is c.drain-core.ensures.ends

pub returns-in-Memory-clause-drained : goal.returns-in-Memory-clause-drained
returns-in-Memory-clause-drained g c =
    let w : Sight g.row.D.Denot g.row.K.Denot = sight g.D.Disk.is_told g.D.Disk.seen g.D.Disk.may_leave g.D.Disk.moment g.D.Disk.left_since g.D.Disk.fault_count g.K.Keeper.is_told g.K.Keeper.kept g.K.Keeper.images g.K.Keeper.moment g.K.Keeper.images_since g.K.Keeper.down g.K.Keeper.size g.K.Keeper.fault_count g.K.Keeper.opened g.K.Keeper.is_within in
    subst (λ (e : WorkEnd). EndsSo w e c.args.core c.drain-core.result.core) c.in-Memory.is c.drain-core.ensures.ends

pub unreachable-requires : goal.unreachable-requires
unreachable-requires g c = (let apart : false ≡ true = sym c.requires.up ∙ c.drain-core.ensures.down.0 c.in-Down.is in cc)
