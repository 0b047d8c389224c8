use Rattle.std.proofs.Common.{sym, subst}
use Rattle.core_ends.specs.core_state.declared.state.CoreState.{CoreState}
use Rattle.core_ends.specs.core_course.Sight.{Sight, sight}
use Rattle.hub_calls.specs.Follows.{Follows}
use Rattle.hub_calls.proofs.Steps.{nothing_follows}
use Rattle.hub_calls.proofs.followed.Followed.new.Goals as goal

pub invariant_of-result : goal.invariant_of-result
invariant_of-result g c =
    let w : Sight g.row.D.Denot g.row.K.Denot = sight g.D.Disk.is_told g.D.Disk.seen g.D.Disk.may_leave g.D.Disk.moment g.D.Disk.left_since g.D.Disk.fault_count g.K.Keeper.is_told g.K.Keeper.kept g.K.Keeper.images g.K.Keeper.moment g.K.Keeper.images_since g.K.Keeper.down g.K.Keeper.size g.K.Keeper.fault_count g.K.Keeper.opened g.K.Keeper.is_within in
    subst (λ (start : CoreState g.row.D.Denot g.row.K.Denot). Follows w g.P.Purpose.only_work start c.args.core) (sym c.of-start.ensures)
    (nothing_follows w g.P.Purpose.only_work c.args.core)
