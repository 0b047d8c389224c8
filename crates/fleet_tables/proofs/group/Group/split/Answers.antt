use Rattle.std.proofs.Common.{◌∙◌, ◌/◌, ◌++◌, sym, ap, subst}
use Rattle.std.specs.List.{AllByRecursion}
use Rattle.std.proofs.lemmas.List.{take-append-drop}
use Rattle.kept_nodes.specs.Counted.{none, total_from, AreCountedFrom, IsWithin}
use Rattle.kept_nodes.specs.Kept.{IsNode}
use Rattle.kept_nodes.specs.Places.{Boxes, nodes_in, seen_in, InOrder}
use Rattle.kept_nodes.proofs.Counting.{counted_front}
use Rattle.fleet_tables.proofs.Halves.{front_seen, behind_seen, front_kept, behind_kept, front_ordered, behind_ordered, front_counted, front_within, behind_within}
use Rattle.fleet_tables.proofs.group.Group.split.Goals as goal

pub count_from-self-inside-requires-clause-counted : goal.count_from-self-inside-requires-clause-counted
count_from-self-inside-requires-clause-counted c =
    let half = c.len-half.result / 2 in
    counted_front none (nodes_in c.upper_half.new.nodes.items) half
    (subst (λ (b : Boxes). AreCountedFrom none (nodes_in b)) (sym c.in_ok-upper.ensures.lower) (front_counted c.self.inside.nodes.items c.self.inside.total half c.self.invariant))

pub count_from-self-inside-requires-clause-within : goal.count_from-self-inside-requires-clause-within
count_from-self-inside-requires-clause-within c =
    subst (λ (b : Boxes). IsWithin (total_from none (nodes_in b))) (sym c.in_ok-upper.ensures.lower) (front_within c.self.inside.nodes.items c.self.inside.total (c.len-half.result / 2) c.self.invariant)

pub count_from-self-inside-requires-clause-kept : goal.count_from-self-inside-requires-clause-kept
count_from-self-inside-requires-clause-kept c =
    subst (λ (b : Boxes). AllByRecursion IsNode (nodes_in b)) (sym c.in_ok-upper.ensures.lower) (front_kept c.self.inside.nodes.items c.self.inside.total (c.len-half.result / 2) c.self.invariant)

pub count_from-self-inside-requires-clause-order : goal.count_from-self-inside-requires-clause-order
count_from-self-inside-requires-clause-order c =
    subst (λ (b : Boxes). InOrder (nodes_in b)) (sym c.in_ok-upper.ensures.lower) (front_ordered c.self.inside.nodes.items c.self.inside.total (c.len-half.result / 2) c.self.invariant)

pub of-requires-clause-within : goal.of-requires-clause-within
of-requires-clause-within c =
    subst (λ (b : Boxes). IsWithin (total_from none (nodes_in b))) (sym c.in_ok-upper.ensures.upper) (behind_within c.self.inside.nodes.items c.self.inside.total (c.len-half.result / 2) c.self.invariant)

pub of-requires-clause-kept : goal.of-requires-clause-kept
of-requires-clause-kept c =
    subst (λ (b : Boxes). AllByRecursion IsNode (nodes_in b)) (sym c.in_ok-upper.ensures.upper) (behind_kept c.self.inside.nodes.items c.self.inside.total (c.len-half.result / 2) c.self.invariant)

pub of-requires-clause-order : goal.of-requires-clause-order
of-requires-clause-order c =
    subst (λ (b : Boxes). InOrder (nodes_in b)) (sym c.in_ok-upper.ensures.upper) (behind_ordered c.self.inside.nodes.items c.self.inside.total (c.len-half.result / 2) c.self.invariant)

pub returns-clause-nodes : goal.returns-clause-nodes
returns-clause-nodes c =
    let boxes = c.self.inside.nodes.items in
    let half = c.len-half.result / 2 in
    let lower = c.count_from-self-inside.ensures.seen ∙ ap seen_in c.in_ok-upper.ensures.lower ∙ front_seen boxes c.self.inside.total half c.self.invariant in
    let upper = c.of.ensures ∙ ap seen_in c.in_ok-upper.ensures.upper ∙ behind_seen boxes c.self.inside.total half c.self.invariant in
    (λ i. lower i ++ upper i) ∙ take-append-drop half (seen_in boxes) ∙ c.self.view_is
