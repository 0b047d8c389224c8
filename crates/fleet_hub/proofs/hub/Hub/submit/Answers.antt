use Rattle.core_drain.specs.core_course.Sight.{Sight, sight}
use Rattle.hub_work.proofs.of_hub_calls.Calls.{one_call}
use Rattle.fleet_hub.proofs.hub.Hub.submit.Goals as goal

pub returns-clause-one_call : goal.returns-clause-one_call
returns-clause-one_call g c =
    let w : Sight g.row.D.Denot g.row.K.Denot = sight g.D.Disk.is_told g.D.Disk.seen g.D.Disk.may_leave g.D.Disk.moment g.D.Disk.left_since g.D.Disk.fault_count g.K.Keeper.is_told g.K.Keeper.kept g.K.Keeper.images g.K.Keeper.moment g.K.Keeper.images_since g.K.Keeper.down g.K.Keeper.size g.K.Keeper.fault_count g.K.Keeper.opened g.K.Keeper.is_within in
    let r = c.hold.ensures.one_hold in
    let m = r.5.met in
    one_call w g.P.Purpose.only_work _ c.args.pass.now c.hold.new.pass r.0 r.1 r.2 r.5.shown.now r.5.left.now r.5.shows r.5.leaves m.1.1.1 m.0 m.1.0 r.3 r.4 r.6 r.7 r.8
