use Rattle.std.proofs.Common.{true, sym, subst}
use Rattle.core_drain.specs.core_state.declared.state.CoreState.{CoreState}
use Rattle.core_drain.specs.core_course.Sight.{Sight, sight}
use Rattle.hub_work.specs.hub_calls.Follows.{Follows}
use Rattle.hub_work.proofs.of_hub_calls.Steps.{nothing_follows}
use Rattle.fleet_hub.proofs.draining.work_all.Goals as goal

pub returns-in-Err : goal.returns-in-Err
returns-in-Err g c =
    let w : Sight g.row.D.Denot g.row.K.Denot = sight g.D.Disk.is_told g.D.Disk.seen g.D.Disk.may_leave g.D.Disk.moment g.D.Disk.left_since g.D.Disk.fault_count g.K.Keeper.is_told g.K.Keeper.kept g.K.Keeper.images g.K.Keeper.moment g.K.Keeper.images_since g.K.Keeper.down g.K.Keeper.size g.K.Keeper.fault_count g.K.Keeper.opened g.K.Keeper.is_within in
    subst (λ (core : CoreState g.row.D.Denot g.row.K.Denot). Follows w true c.args.core core) (sym c.in-Err.ensures.err) (nothing_follows w true c.args.core)
