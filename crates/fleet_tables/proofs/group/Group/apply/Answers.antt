use Rattle.std.proofs.Common.{◌∙◌, sym, ap, subst}
use Rattle.std.specs.List.Sorted.{IsStrictlySortedBy}
use Rattle.checkpoint_spec.specs.fleet_rows.Change.{change_certname}
use Rattle.checkpoint_spec.specs.fleet_rows.declared.applied.Applied.{Applied}
use Rattle.checkpoint_spec.specs.history_spec.Trace.{applied_as}
use Rattle.checkpoint_spec.specs.table_machine.Steps.{with_node, with_applied}
use Rattle.checkpoint_spec.specs.table_machine.Table.{node_cmp}
use Rattle.kept_nodes.specs.Counted.{none, AreCountedFrom}
use Rattle.kept_nodes.specs.Places.{nodes_in, seen_in}
use Rattle.kept_nodes.proofs.Counting.{counted_front, counted_same, total_same}
use Rattle.fleet_tables.proofs.NodeOrder.{applied_in_order}
use Rattle.fleet_tables.proofs.RowBounds.{few_within}
use Rattle.fleet_tables.proofs.group.Group.apply.Goals as goal

pub count_from-self-inside-requires-clause-within : goal.count_from-self-inside-requires-clause-within
count_from-self-inside-requires-clause-within c =
    let x : Applied = applied_as c.args.receipt c.args.received c.args.change in
    let step = with_node (change_certname c.args.change) (with_applied c.args.ttls.now c.args.retention.now x) in
    few_within (nodes_in c.apply_change-from.new.nodes.items) (step c.args.self.now) c.apply_change-from.ensures.kept (c.apply_change-from.ensures.seen ∙ ap step c.self.view_is) c.requires.few

pub count_from-self-inside-requires-clause-order : goal.count_from-self-inside-requires-clause-order
count_from-self-inside-requires-clause-order c =
    let x : Applied = applied_as c.args.receipt c.args.received c.args.change in
    subst (IsStrictlySortedBy node_cmp) (sym c.apply_change-from.ensures.seen) (applied_in_order c.args.ttls.now c.args.retention.now x (seen_in c.self.inside.nodes.items) c.self.invariant.1)

pub count_from-self-inside-requires-clause-counted : goal.count_from-self-inside-requires-clause-counted
count_from-self-inside-requires-clause-counted c =
    subst (AreCountedFrom none) (sym c.in-Some.ensures.counted.1) (counted_front none (nodes_in c.self.inside.nodes.items) c.in-Some.at c.self.invariant.2)

-- where no number changed, what is counted stays right
pub invariant_of-self-in_default : goal.invariant_of-self-in_default
invariant_of-self-in_default c =
    let old = nodes_in c.self.inside.nodes.items in
    let new = nodes_in c.apply_change-from.new.nodes.items in
    let x : Applied = applied_as c.args.receipt c.args.received c.args.change in
    let same = c.in_default.ensures.counted in (
      c.apply_change-from.ensures.kept,
      subst (IsStrictlySortedBy node_cmp) (sym c.apply_change-from.ensures.seen) (applied_in_order c.args.ttls.now c.args.retention.now x (seen_in c.self.inside.nodes.items) c.self.invariant.1),
      counted_same none new old same c.self.invariant.2,
      c.self.invariant.3 ∙ sym (total_same none new old same),
      c.self.invariant.4,
    )
