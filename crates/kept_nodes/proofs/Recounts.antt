-- Nodes that are counted anew stay what they are.
use Rattle.std.proofs.Common.{◌≡◌, ◌∙◌, ℕ, ◌-◌, List, [], ◌∷◌, ◌++◌, length, map, take, drop, refl, sym, ap, subst, arith}
use Rattle.std.specs.List.{AllByRecursion}
use Rattle.std.specs.declared.alloc.Global.{Global}
use Rattle.std.specs.declared.boxed.Box.{Box}
use Rattle.std.proofs.lemmas.List.{map-append, append-nil, take-append-drop, take-map, drop-map, take_rest, drop_all, length-drop}
use borrow.Rule.Slice.PartMut.{put_mid}
use Rattle.kept_nodes.specs.Counted.{none, plus, counts, total_from, AreCountedFrom}
use Rattle.kept_nodes.specs.Kept.{IsNode}
use Rattle.kept_nodes.specs.Places.{Boxes, nodes_in, recounted}
use Rattle.kept_nodes.specs.Seen.{node_seen}
use Rattle.kept_nodes.specs.declared.counts.Counts.{Counts}
use Rattle.kept_nodes.specs.declared.node.Node.{Node}
use Rattle.kept_nodes.proofs.Counting.{total_joined, counted_joined}

recounted_kept : (before : Counts) (nodes : List Node) → AllByRecursion IsNode nodes → AllByRecursion IsNode (recounted before nodes)
recounted_kept before [] h = tt
recounted_kept before (n ∷ ns) h = (h.0, recounted_kept (plus before (counts n)) ns h.1)

recounted_seen : (before : Counts) (nodes : List Node) → map node_seen (recounted before nodes) ≡ map node_seen nodes
recounted_seen before [] = refl
recounted_seen before (n ∷ ns) = ap (λ l. node_seen n ∷ l) (recounted_seen (plus before (counts n)) ns)

recounted_counted : (before : Counts) (nodes : List Node) → AreCountedFrom before (recounted before nodes)
recounted_counted before [] = tt
recounted_counted before (n ∷ ns) = (refl, recounted_counted (plus before (counts n)) ns)

recounted_total : (from before : Counts) (nodes : List Node) → total_from from (recounted before nodes) ≡ total_from from nodes
recounted_total from before [] = refl
recounted_total from before (n ∷ ns) = recounted_total (plus from (counts n)) (plus before (counts n)) ns

-- ---- from a place on

all_replaced : (front old new : List Node) → (AllByRecursion IsNode old → AllByRecursion IsNode new) → AllByRecursion IsNode (front ++ old) → AllByRecursion IsNode (front ++ new)
all_replaced [] old new f h = f h
all_replaced (n ∷ ns) old new f h = (h.0, all_replaced ns old new f h.1)

module _ (nodes : List Node) (at : ℕ) where
  abbrev behind : List Node
  behind = recounted (total_from none (take at nodes)) (drop at nodes)

  abbrev pub recounted_on : List Node
  recounted_on = take at nodes ++ behind

  pub recounted_on-seen : map node_seen recounted_on ≡ map node_seen nodes
  recounted_on-seen =
      map-append node_seen (take at nodes) behind
      ∙ ap (λ l. map node_seen (take at nodes) ++ l) (recounted_seen (total_from none (take at nodes)) (drop at nodes))
      ∙ sym (map-append node_seen (take at nodes) (drop at nodes))
      ∙ ap (map node_seen) (take-append-drop at nodes)

  pub recounted_on-kept : AllByRecursion IsNode nodes → AllByRecursion IsNode recounted_on
  recounted_on-kept h =
      all_replaced (take at nodes) (drop at nodes) behind (recounted_kept (total_from none (take at nodes)) (drop at nodes))
      (subst (AllByRecursion IsNode) (sym (take-append-drop at nodes)) h)

  pub recounted_on-counted : AreCountedFrom none (take at nodes) → AreCountedFrom none recounted_on
  recounted_on-counted h = counted_joined none (take at nodes) behind h (recounted_counted (total_from none (take at nodes)) (drop at nodes))

  -- the front, and then the rest
  pub total_on : total_from (total_from none (take at nodes)) (drop at nodes) ≡ total_from none nodes
  total_on = sym (total_joined none (take at nodes) (drop at nodes)) ∙ ap (total_from none) (take-append-drop at nodes)

  pub recounted_on-total : total_from none recounted_on ≡ total_from none nodes
  recounted_on-total =
      total_joined none (take at nodes) behind
      ∙ recounted_total (total_from none (take at nodes)) (total_from none (take at nodes)) (drop at nodes)
      ∙ total_on

-- ---- the same of nodes in boxes

put_rest : {X : Type 0} (xs ys : List X) (at : ℕ) → put_mid at (length xs - at) xs ys ≡ take at xs ++ ys
put_rest xs ys at = ap (λ p. take at xs ++ (ys ++ p)) (drop_all (length xs - at) (drop at xs) (omega (arith, length-drop at xs))) ∙ ap (λ p. take at xs ++ p) (append-nil ys)

module _ (boxes slice : Boxes) (at : ℕ) (same : slice ≡ boxes) where
  pub front_in : nodes_in (take at slice) ≡ take at (nodes_in boxes)
  front_in = sym (take-map (λ (b : Box Node Global). b.value) at slice) ∙ ap (λ l. take at (nodes_in l)) same

  pub rest_in : nodes_in (take (length slice - at) (drop at slice)) ≡ drop at (nodes_in boxes)
  rest_in = ap nodes_in (take_rest slice at) ∙ sym (drop-map (λ (b : Box Node Global). b.value) at slice) ∙ ap (λ l. drop at (nodes_in l)) same

  pub parts_in : (new : Boxes) → nodes_in (put_mid at (length slice - at) slice new) ≡ take at (nodes_in boxes) ++ nodes_in new
  parts_in new = ap nodes_in (put_rest slice new at) ∙ map-append (λ (b : Box Node Global). b.value) (take at slice) new ∙ ap (λ l. l ++ nodes_in new) front_in
