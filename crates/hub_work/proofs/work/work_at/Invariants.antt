-- So far the pass is of the hub, with its spares, and has seen more, with further holds; and no job is at hand.
use Rattle.std.proofs.Common.{◌≡◌, None}
use mathlib.Core.List.{IsPrefix}
use Rattle.hub_calls.specs.core_ends.core_course.Sight.{Sight, sight}
use Rattle.hub_work.specs.Ends.{WorkCalls}
use Rattle.hub_work.proofs.work.work_at.Given as goal

abbrev pub invariant-turns : goal.invariant-turns
invariant-turns g l =
    let w : Sight g.row.D.Denot g.row.K.Denot = sight g.D.Disk.is_told g.D.Disk.seen g.D.Disk.may_leave g.D.Disk.moment g.D.Disk.left_since g.D.Disk.fault_count g.K.Keeper.is_told g.K.Keeper.kept g.K.Keeper.images g.K.Keeper.moment g.K.Keeper.images_since g.K.Keeper.down g.K.Keeper.size g.K.Keeper.fault_count g.K.Keeper.opened g.K.Keeper.is_within in
    (l.pass.lock ≡ l.fn.pass.lock)
    × (l.pass.spares ≡ l.fn.pass.spares)
    × IsPrefix l.fn.pass.seen l.pass.seen
    × IsPrefix l.fn.pass.holds l.pass.holds
    × WorkCalls w g.K.Keeper.generation g.P.Purpose.only_work None l.fn.pass None l.pass
