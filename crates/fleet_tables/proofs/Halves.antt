-- The two halves of a group that is split.
use Rattle.std.proofs.Common.{◌≡◌, ◌∙◌, ℕ, zero, suc, List, [], ◌∷◌, ◌++◌, take, drop, map, sym, ap, subst, append-nil, inl, inr}
use Rattle.std.specs.List.{AllByRecursion}
use Rattle.std.specs.declared.alloc.Global.{Global}
use Rattle.std.specs.declared.boxed.Box.{Box}
use Rattle.std.proofs.lemmas.List.{take-map, drop-map, take-append-drop}
use Rattle.checkpoint_spec.proofs.of_plain_laws.Members.{all_take, all_drop}
use Rattle.checkpoint_spec.proofs.of_history_laws.Members.{Among}
use Rattle.checkpoint_spec.proofs.of_history_laws.StrictlySorted.{sorted-nil, sorted-cons, sorted-below, sorted-rest}
use Rattle.checkpoint_spec.specs.table_machine.Table as machine
use Rattle.checkpoint_spec.specs.table_machine.Table.{node_cmp}
use Rattle.kept_nodes.specs.Counted.{none, total_from, AreCountedFrom, IsWithin}
use Rattle.fleet_tables.specs.Groups.{StandInOrder, AreFew}
use Rattle.kept_nodes.specs.Kept.{IsNode, AreNodes}
use Rattle.kept_nodes.specs.Places.{Boxes, nodes_in, seen_in, InOrder}
use Rattle.kept_nodes.specs.Seen.{node_seen}
use Rattle.kept_nodes.specs.declared.counts.Counts.{Counts}
use Rattle.kept_nodes.specs.declared.node.Node.{Node}
use Rattle.kept_nodes.proofs.Counting.{counted_front, within_front}
use Rattle.fleet_tables.proofs.RowBounds.{nodes_counted, counted_few, few_part, few_within}

-- ---- lists

among_front : {X : Type 0} (k : ℕ) (xs : List X) (x : X) → Among x (take k xs) → Among x xs
among_front zero xs x a = absurd a
among_front (suc k) [] x a = absurd a
among_front (suc k) (y ∷ ys) x (inl e) = inl e
among_front (suc k) (y ∷ ys) x (inr a) = inr (among_front k ys x a)

front_in_order : (k : ℕ) (nodes : List machine.Node) → StandInOrder nodes → StandInOrder (take k nodes)
front_in_order zero nodes s = sorted-nil node_cmp
front_in_order (suc k) [] s = sorted-nil node_cmp
front_in_order (suc k) (n ∷ ns) s = sorted-cons node_cmp n (take k ns) (λ m a. sorted-below node_cmp n ns s m (among_front k ns m a)) (front_in_order k ns (sorted-rest node_cmp n ns s))

behind_in_order : (k : ℕ) (nodes : List machine.Node) → StandInOrder nodes → StandInOrder (drop k nodes)
behind_in_order zero nodes s = s
behind_in_order (suc k) [] s = s
behind_in_order (suc k) (n ∷ ns) s = behind_in_order k ns (sorted-rest node_cmp n ns s)

-- ---- a group's nodes

module _ (boxes : Boxes) (total : Counts) (half : ℕ) (h : AreNodes (nodes_in boxes) total) where
  abbrev nodes : List Node
  nodes = nodes_in boxes

  front_nodes : nodes_in (take half boxes) ≡ take half nodes
  front_nodes = sym (take-map (λ (b : Box Node Global). b.value) half boxes)

  behind_nodes : nodes_in (drop half boxes) ≡ drop half nodes
  behind_nodes = sym (drop-map (λ (b : Box Node Global). b.value) half boxes)

  pub front_seen : seen_in (take half boxes) ≡ take half (seen_in boxes)
  front_seen = ap (map node_seen) front_nodes ∙ sym (take-map node_seen half nodes)

  pub behind_seen : seen_in (drop half boxes) ≡ drop half (seen_in boxes)
  behind_seen = ap (map node_seen) behind_nodes ∙ sym (drop-map node_seen half nodes)

  few : AreFew (take half (seen_in boxes) ++ (drop half (seen_in boxes) ++ []))
  few =
      subst AreFew (sym (ap (λ x. take half (seen_in boxes) ++ x) (append-nil (drop half (seen_in boxes))) ∙ take-append-drop half (seen_in boxes)))
      (counted_few total (seen_in boxes) (nodes_counted nodes total h.0 h.3) h.4)

  pub front_kept : AllByRecursion IsNode (nodes_in (take half boxes))
  front_kept = subst (AllByRecursion IsNode) (sym front_nodes) (all_take IsNode half nodes h.0)

  pub behind_kept : AllByRecursion IsNode (nodes_in (drop half boxes))
  behind_kept = subst (AllByRecursion IsNode) (sym behind_nodes) (all_drop IsNode half nodes h.0)

  pub front_ordered : InOrder (nodes_in (take half boxes))
  front_ordered = subst StandInOrder (sym front_seen) (front_in_order half (seen_in boxes) h.1)

  pub behind_ordered : InOrder (nodes_in (drop half boxes))
  behind_ordered = subst StandInOrder (sym behind_seen) (behind_in_order half (seen_in boxes) h.1)

  pub front_counted : AreCountedFrom none (nodes_in (take half boxes))
  front_counted = subst (AreCountedFrom none) (sym front_nodes) (counted_front none nodes half h.2)

  pub front_within : IsWithin (total_from none (nodes_in (take half boxes)))
  front_within = subst (λ ns. IsWithin (total_from none ns)) (sym front_nodes) (within_front nodes half (subst IsWithin h.3 h.4))

  pub behind_within : IsWithin (total_from none (nodes_in (drop half boxes)))
  behind_within =
      few_within (nodes_in (drop half boxes)) (drop half (seen_in boxes)) behind_kept behind_seen (few_part (take half (seen_in boxes)) (drop half (seen_in boxes)) [] few)
