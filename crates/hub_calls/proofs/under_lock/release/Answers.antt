use Rattle.std.proofs.Common.{sym}
use Rattle.core_ends.specs.core_course.Sight.{Sight, sight}
use Rattle.hub_calls.proofs.Calls.{one_call}
use Rattle.hub_calls.proofs.under_lock.release.Goals as goal

pub returns-clause-pass : goal.returns-clause-pass
returns-clause-pass g c = (c.hold.ensures.lock, c.hold.ensures.spares, c.hold.ensures.seen, (_, sym c.hold.ensures.one_hold.8))

pub returns-clause-one_call : goal.returns-clause-one_call
returns-clause-one_call g c =
    let w : Sight g.row.D.Denot g.row.K.Denot = sight g.D.Disk.is_told g.D.Disk.seen g.D.Disk.may_leave g.D.Disk.moment g.D.Disk.left_since g.D.Disk.fault_count g.K.Keeper.is_told g.K.Keeper.kept g.K.Keeper.images g.K.Keeper.moment g.K.Keeper.images_since g.K.Keeper.down g.K.Keeper.size g.K.Keeper.fault_count g.K.Keeper.opened g.K.Keeper.is_within in
    let r = c.hold.ensures.one_hold in
    let m = r.5.met in
    one_call w g.P.Purpose.only_work _ c.args.pass.now c.hold.new.pass r.0 r.1 r.2 r.5.shown.now r.5.left.now r.5.shows r.5.leaves m.1.1.1 m.0 m.1.0 r.3 r.4 r.6 r.7 r.8
