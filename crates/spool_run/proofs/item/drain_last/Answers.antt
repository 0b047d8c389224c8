use Rattle.std.proofs.Common.{refl, subst, Option}
use Rattle.fleet_hub.specs.core_course.Sight.{Sight, sight}
use Rattle.spool_run.specs.declared.ends.SpoolEnd.{SpoolEnd}
use Rattle.spool_run.specs.Steps.{DrainEnds, stopped, settled}
use Rattle.spool_run.proofs.item.drain_last.Goals as goal

pub returns-in-Some : goal.returns-in-Some
returns-in-Some g c =
    let w : Sight g.row.D.Denot g.row.K.Denot = sight g.D.Disk.is_told g.D.Disk.seen g.D.Disk.may_leave g.D.Disk.moment g.D.Disk.left_since g.D.Disk.fault_count g.K.Keeper.is_told g.K.Keeper.kept g.K.Keeper.images g.K.Keeper.moment g.K.Keeper.images_since g.K.Keeper.down g.K.Keeper.size g.K.Keeper.fault_count g.K.Keeper.opened g.K.Keeper.is_within in
    let d = c.drain_all-core in
    stopped c.in-Some.fault refl d.ensures.worked (subst (λ (o : Option SpoolEnd). DrainEnds w o c.args.core d.result.core) c.in-Some.is d.ensures.drained)

pub returns-in-None : goal.returns-in-None
returns-in-None g c =
    let w : Sight g.row.D.Denot g.row.K.Denot = sight g.D.Disk.is_told g.D.Disk.seen g.D.Disk.may_leave g.D.Disk.moment g.D.Disk.left_since g.D.Disk.fault_count g.K.Keeper.is_told g.K.Keeper.kept g.K.Keeper.images g.K.Keeper.moment g.K.Keeper.images_since g.K.Keeper.down g.K.Keeper.size g.K.Keeper.fault_count g.K.Keeper.opened g.K.Keeper.is_within in
    let d = c.drain_all-core in
    settled refl d.ensures.worked (subst (λ (o : Option SpoolEnd). DrainEnds w o c.args.core d.result.core) c.in-None.is d.ensures.drained)
