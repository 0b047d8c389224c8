use Rattle.std.proofs.Common.{IfSome, List, sym, subst}
use Rattle.std.specs.List.{AllByRecursion}
use Rattle.checkpoint_spec.specs.stamp_time.Range.{IsStampMoment}
use Rattle.fleet_tables.specs.Groups.{joined, AreFew, AreCountsOf, AreStarts, StandInOrder}
use Rattle.fleet_tables.proofs.JoinedNodes.{Groups}
use Rattle.checkpoint_spec.proofs.of_history_laws.Moments.{later_is_stamp}
use Rattle.kept_nodes.specs.Owned.{IsOwn}
use Rattle.fleet_tables.proofs.OwnLaws.{all_retained_own}
use Rattle.fleet_tables.proofs.NodeOrder.{retained_in_order}
use Rattle.fleet_tables.proofs.RowBounds.{counted_few, retained_few}
use Rattle.fleet_tables.proofs.StartLaws.{no_starts}
use Rattle.kept_nodes.specs.declared.counts.Counts.{Counts}
use Rattle.fleet_tables.proofs.state.State.retain.Goals as goal

pub rows_in-self-inside-requires : goal.rows_in-self-inside-requires
rows_in-self-inside-requires c =
    let inside = c.self.inside in
    let few = counted_few inside.total (joined inside.groups.items) c.self.invariant.4 c.self.invariant.5 in
    subst (λ (groups : Groups). AreFew (joined groups)) (sym c.as_slice.ensures.value)
    (subst AreFew (sym c.retain.ensures.nodes) (retained_few inside.ttls c.later-self-inside.result (joined inside.groups.items) few))

pub invariant_of-self : goal.invariant_of-self
invariant_of-self c =
    let inside = c.self.inside in (
      c.self.invariant.0,
      subst (λ o. IfSome o IsStampMoment) (sym c.later-self-inside.ensures) (later_is_stamp c.args.m inside.retention c.requires c.self.invariant.1),
      c.retain.ensures.filled,
      subst StandInOrder (sym c.retain.ensures.nodes) (retained_in_order inside.ttls c.later-self-inside.result (joined inside.groups.items) c.self.invariant.3),
      subst (λ (groups : Groups). AreCountsOf c.rows_in-self-inside.result (joined groups)) c.as_slice.ensures.value c.rows_in-self-inside.ensures.rows,
      c.rows_in-self-inside.ensures.within,
      subst (AllByRecursion IsOwn) (sym c.retain.ensures.nodes) (all_retained_own inside.ttls c.later-self-inside.result (joined inside.groups.items) c.self.invariant.6),
      subst (λ (starts : List Counts). AreStarts starts c.retain.new.groups.items) (sym c.clear.ensures.items) (no_starts c.retain.new.groups.items),
    )
