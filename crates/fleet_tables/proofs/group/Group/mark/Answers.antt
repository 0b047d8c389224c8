use Rattle.std.proofs.Common.{◌∙◌, sym, ap, subst, arith}
use Rattle.std.specs.List.Sorted.{IsStrictlySortedBy}
use Rattle.std.specs.declared.alloc.Global.{Global}
use Rattle.std.specs.declared.boxed.Box.{Box}
use Rattle.std.proofs.lemmas.List.{length-map}
use Rattle.checkpoint_spec.specs.table_machine.Steps.{with_node}
use Rattle.checkpoint_spec.specs.table_machine.Table.{node_cmp}
use Rattle.kept_nodes.specs.Seen.{with_activity}
use Rattle.kept_nodes.specs.Counted.{none, AreCountedFrom, IsCountedBefore}
use Rattle.kept_nodes.specs.Places.{nodes_in, seen_in}
use Rattle.kept_nodes.specs.declared.node.Node.{Node}
use Rattle.kept_nodes.proofs.Counting.{counted_front, counted_same, total_same}
use Rattle.fleet_tables.proofs.MarkLaws.{marked_in_order}
use Rattle.fleet_tables.proofs.RowBounds.{few_within}
use Rattle.fleet_tables.proofs.group.Group.mark.Goals as goal

pub count_from-self-inside-requires-clause-place : goal.count_from-self-inside-requires-clause-place
count_from-self-inside-requires-clause-place c =
    let boxes = c.mark_in.new.nodes.items in
    let counted = subst (λ o. IsCountedBefore o (nodes_in c.self.inside.nodes.items) (nodes_in boxes)) c.in-Some.is c.in_ok-from.ensures.counted in
    omega (arith, counted.0, length-map boxes (λ (b : Box Node Global). b.value))

pub count_from-self-inside-requires-clause-counted : goal.count_from-self-inside-requires-clause-counted
count_from-self-inside-requires-clause-counted c =
    let old = nodes_in c.self.inside.nodes.items in
    let new = nodes_in c.mark_in.new.nodes.items in
    let counted = subst (λ o. IsCountedBefore o old new) c.in-Some.is c.in_ok-from.ensures.counted in
    subst (AreCountedFrom none) (sym counted.1) (counted_front none old c.in-Some.at c.self.invariant.2)

pub count_from-self-inside-requires-clause-within : goal.count_from-self-inside-requires-clause-within
count_from-self-inside-requires-clause-within c =
    let step = with_node c.args.certname.now (with_activity c.args.active) in
    few_within (nodes_in c.mark_in.new.nodes.items) (step c.args.self.now) c.in_ok-from.ensures.kept (c.in_ok-from.ensures.seen ∙ ap step c.self.view_is) c.requires.few

pub count_from-self-inside-requires-clause-order : goal.count_from-self-inside-requires-clause-order
count_from-self-inside-requires-clause-order c =
    subst (IsStrictlySortedBy node_cmp) (sym c.in_ok-from.ensures.seen) (marked_in_order c.args.certname.now c.args.active (seen_in c.self.inside.nodes.items) c.self.invariant.1)

-- where no node came, what is counted stays right
pub invariant_of-self-in-None : goal.invariant_of-self-in-None
invariant_of-self-in-None c =
    let old = nodes_in c.self.inside.nodes.items in
    let new = nodes_in c.mark_in.new.nodes.items in
    let same = subst (λ o. IsCountedBefore o old new) c.in-None.is c.in_ok-from.ensures.counted in (
      c.in_ok-from.ensures.kept,
      subst (IsStrictlySortedBy node_cmp) (sym c.in_ok-from.ensures.seen) (marked_in_order c.args.certname.now c.args.active (seen_in c.self.inside.nodes.items) c.self.invariant.1),
      counted_same none new old same c.self.invariant.2,
      c.self.invariant.3 ∙ sym (total_same none new old same),
      c.self.invariant.4,
    )
