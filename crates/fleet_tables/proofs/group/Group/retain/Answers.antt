use Rattle.std.proofs.Common.{map, sym, subst}
use Rattle.std.specs.List.Sorted.{IsStrictlySortedBy}
use Rattle.checkpoint_spec.specs.table_machine.Steps.{with_retained}
use Rattle.checkpoint_spec.specs.table_machine.Table.{node_cmp}
use Rattle.fleet_tables.specs.Groups.{AreFew}
use Rattle.kept_nodes.specs.Places.{nodes_in, seen_in}
use Rattle.fleet_tables.proofs.RowBounds.{nodes_counted, counted_few, retained_few, few_within}
use Rattle.fleet_tables.proofs.NodeOrder.{retained_in_order}
use Rattle.fleet_tables.proofs.group.Group.retain.Goals as goal

pub count_from-self-inside-requires-clause-within : goal.count_from-self-inside-requires-clause-within
count_from-self-inside-requires-clause-within c =
    let boxes = c.self.inside.nodes.items in
    let few : AreFew (seen_in boxes) = counted_few c.self.inside.total (seen_in boxes) (nodes_counted (nodes_in boxes) c.self.inside.total c.self.invariant.0 c.self.invariant.3) c.self.invariant.4 in
    few_within (nodes_in c.retain_reports.new.nodes.items) (map (with_retained c.args.ttls.now c.args.retention.now) (seen_in boxes)) c.retain_reports.ensures.kept c.retain_reports.ensures.seen
    (retained_few c.args.ttls.now c.args.retention.now (seen_in boxes) few)

pub count_from-self-inside-requires-clause-order : goal.count_from-self-inside-requires-clause-order
count_from-self-inside-requires-clause-order c =
    subst (IsStrictlySortedBy node_cmp) (sym c.retain_reports.ensures.seen) (retained_in_order c.args.ttls.now c.args.retention.now (seen_in c.self.inside.nodes.items) c.self.invariant.1)
