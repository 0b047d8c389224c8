use Rattle.std.proofs.Common.{sym, subst, not}
use Rattle.std.specs.List.Sorted.{IsStrictlySortedBy}
use Rattle.checkpoint_spec.specs.table_machine.Node.{node_purged}
use Rattle.checkpoint_spec.specs.table_machine.Table.{Node, node_cmp}
use Rattle.fleet_tables.specs.Groups.{AreFew}
use Rattle.kept_nodes.specs.Places.{nodes_in, seen_in, left_by_purge}
use Rattle.fleet_tables.proofs.RowBounds.{nodes_counted, counted_few, purged_few, few_within}
use Rattle.fleet_tables.proofs.NodeOrder.{purged_in_order}
use Rattle.fleet_tables.proofs.group.Group.purge.Goals as goal

pub count_from-self-inside-requires-clause-within : goal.count_from-self-inside-requires-clause-within
count_from-self-inside-requires-clause-within c =
    let boxes = c.self.inside.nodes.items in
    let few : AreFew (seen_in boxes) = counted_few c.self.inside.total (seen_in boxes) (nodes_counted (nodes_in boxes) c.self.inside.total c.self.invariant.0 c.self.invariant.3) c.self.invariant.4 in
    few_within (nodes_in c.purge_nodes.new.nodes.items) (left_by_purge c.args.ttls.now c.args.m c.args.expiry.now (seen_in boxes)) c.purge_nodes.ensures.kept c.purge_nodes.ensures.seen
    (purged_few (λ (node : Node). not (node_purged c.args.ttls.now c.args.m c.args.expiry.now node)) (seen_in boxes) few)

pub count_from-self-inside-requires-clause-order : goal.count_from-self-inside-requires-clause-order
count_from-self-inside-requires-clause-order c =
    subst (IsStrictlySortedBy node_cmp) (sym c.purge_nodes.ensures.seen) (purged_in_order c.args.ttls.now c.args.m c.args.expiry.now (seen_in c.self.inside.nodes.items) c.self.invariant.1)
