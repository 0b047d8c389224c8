use Rattle.std.proofs.Common.{◌≡◌, sym, subst}
use mathlib.Core.List.{IsPrefix}
use Rattle.core_drain.specs.core_state.declared.state.CoreState.{CoreState}
use Rattle.core_drain.specs.core_course.Sight.{Sight, sight}
use Rattle.hub_work.specs.hub_calls.Entries.{entries}
use Rattle.hub_work.specs.hub_calls.Follows.{Follows}
use Rattle.hub_work.specs.hub_calls.Seen.{list_of}
use Rattle.hub_work.proofs.of_hub_calls.Entries.{same_start}
use Rattle.fleet_hub.proofs.hub.Hub.close.Goals as goal

pub returns-clause-follows : goal.returns-clause-follows
returns-clause-follows g c start is =
    let w : Sight g.row.D.Denot g.row.K.Denot = sight g.D.Disk.is_told g.D.Disk.seen g.D.Disk.may_leave g.D.Disk.moment g.D.Disk.left_since g.D.Disk.fault_count g.K.Keeper.is_told g.K.Keeper.kept g.K.Keeper.images g.K.Keeper.moment g.K.Keeper.images_since g.K.Keeper.down g.K.Keeper.size g.K.Keeper.fault_count g.K.Keeper.opened g.K.Keeper.is_within in
    let closed = c.close.result in
    let opened : IsPrefix c.args.self.opening (list_of closed) = subst (λ v. IsPrefix v.opening (list_of closed)) c.self.view_is c.close.ensures.opening in
    let same : start ≡ closed.start = same_start c.args.self.opening start closed.start start.events.list closed.core.events.list opened is in
    subst (λ (first : CoreState g.row.D.Denot g.row.K.Denot). Follows w g.P.Purpose.only_work first c.into_core.result) (sym same) c.into_core.ensures.follows

pub returns-clause-seen : goal.returns-clause-seen
returns-clause-seen g c =
    let closed = c.close.result in
    let opened : IsPrefix c.args.self.opening (list_of closed) = subst (λ v. IsPrefix v.opening (list_of closed)) c.self.view_is c.close.ensures.opening in (
      closed.start,
      subst (λ (core : CoreState g.row.D.Denot g.row.K.Denot). IsPrefix c.args.self.opening (entries closed.start core.events.list)) (sym c.into_core.ensures.core) opened,
      subst (λ (core : CoreState g.row.D.Denot g.row.K.Denot). IsPrefix c.args.pass.seen (entries closed.start core.events.list)) (sym c.into_core.ensures.core) c.close.ensures.seen,
    )
