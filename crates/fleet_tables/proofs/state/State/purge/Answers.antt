use Rattle.std.proofs.Common.{List, not, sym, subst}
use Rattle.std.specs.List.{AllByRecursion}
use Rattle.checkpoint_spec.specs.table_machine.Node.{node_purged}
use Rattle.checkpoint_spec.specs.table_machine.Table.{Node}
use Rattle.fleet_tables.specs.Groups.{joined, AreFew, AreCountsOf, AreStarts, StandInOrder}
use Rattle.fleet_tables.proofs.JoinedNodes.{Groups}
use Rattle.kept_nodes.specs.Owned.{IsOwn}
use Rattle.fleet_tables.proofs.OwnLaws.{all_left_own}
use Rattle.fleet_tables.proofs.NodeOrder.{purged_in_order}
use Rattle.fleet_tables.proofs.RowBounds.{counted_few, purged_few}
use Rattle.fleet_tables.proofs.StartLaws.{no_starts}
use Rattle.kept_nodes.specs.declared.counts.Counts.{Counts}
use Rattle.fleet_tables.proofs.state.State.purge.Goals as goal

pub rows_in-self-inside-requires : goal.rows_in-self-inside-requires
rows_in-self-inside-requires c =
    let inside = c.self.inside in
    let few = counted_few inside.total (joined inside.groups.items) c.self.invariant.4 c.self.invariant.5 in
    subst (λ (groups : Groups). AreFew (joined groups)) (sym c.as_slice.ensures.value)
    (subst AreFew (sym c.purge.ensures.nodes) (purged_few (λ (node : Node). not (node_purged inside.ttls c.args.m inside.expiry node)) (joined inside.groups.items) few))

pub invariant_of-self : goal.invariant_of-self
invariant_of-self c =
    let inside = c.self.inside in (
      c.self.invariant.0,
      c.self.invariant.1,
      c.purge.ensures.filled,
      subst StandInOrder (sym c.purge.ensures.nodes) (purged_in_order inside.ttls c.args.m inside.expiry (joined inside.groups.items) c.self.invariant.3),
      subst (λ (groups : Groups). AreCountsOf c.rows_in-self-inside.result (joined groups)) c.as_slice.ensures.value c.rows_in-self-inside.ensures.rows,
      c.rows_in-self-inside.ensures.within,
      subst (AllByRecursion IsOwn) (sym c.purge.ensures.nodes) (all_left_own inside.ttls c.args.m inside.expiry (joined inside.groups.items) c.self.invariant.6),
      subst (λ (starts : List Counts). AreStarts starts c.purge.new.groups.items) (sym c.clear.ensures.items) (no_starts c.purge.new.groups.items),
    )
