use Rattle.std.proofs.Common.{◌∙◌, sym, subst}
use Rattle.std.specs.List.Sorted.{IsStrictlySortedBy}
use Rattle.checkpoint_spec.specs.table_machine.Table.{node_cmp}
use Rattle.kept_nodes.specs.Counted.{none}
use Rattle.kept_nodes.specs.Places.{nodes_in}
use Rattle.kept_nodes.proofs.Counting.{counted_same, total_same}
use Rattle.fleet_tables.proofs.group.Group.prepare_node.Goals as goal

-- no number changes, so that what is counted stays right
pub invariant_of-self : goal.invariant_of-self
invariant_of-self c =
    let old = nodes_in c.self.inside.nodes.items in
    let new = nodes_in c.prepare_node.new.nodes.items in
    let same = c.prepare_node.ensures.numbers in (
      c.prepare_node.ensures.kept,
      subst (IsStrictlySortedBy node_cmp) (sym c.prepare_node.ensures.seen) c.self.invariant.1,
      counted_same none new old same c.self.invariant.2,
      c.self.invariant.3 ∙ sym (total_same none new old same),
      c.self.invariant.4,
    )
