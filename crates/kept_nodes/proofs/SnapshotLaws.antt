-- Lists that are made element by element: what is listed so far, and the rest, are the whole.
use Rattle.std.proofs.Common.{◌≡◌, ◌∙◌, ℕ, ◌+◌, ◌<◌, List, [], ◌∷◌, ◌++◌, length, map, drop, get_or, Bool, true, false, if◌then◌else◌, refl, sym, ap, append_assoc}
use Rattle.std.specs.List.{flat_map}
use Rattle.std.specs.Cmp.{IsTotalOrder}
use Rattle.std.specs.List.Sorted.{IsSortedBy, IsStableBy}
use Rattle.std.specs.Ordering.{is_gt, is_lt}
use Rattle.std.specs.declared.alloc.Global.{Global}
use Rattle.std.specs.declared.boxed.Box.{Box}
use Rattle.std.specs.declared.cmp.Ordering.{Ordering}
use Rattle.std.proofs.lemmas.Cmp.{on_total}
use Rattle.std.proofs.lemmas.List.{drop_more}
use Rattle.checkpoint_spec.specs.history_spec.Trace.{rank_of}
use Rattle.checkpoint_spec.specs.table_spec.Sorted.{insert_by, sorted_by}
use Rattle.checkpoint_spec.proofs.of_history_laws.Ranks.{rank_cmp_total}
use Rattle.checkpoint_spec.specs.table_machine.Table.{Node}
use Rattle.row_cells.proofs.SortedLaws.{sorted_lem}
use Rattle.checkpoint_spec.specs.Lists.{by_rank}
use Rattle.kept_nodes.specs.Places.{Boxes, seen_in}
use Rattle.kept_nodes.specs.Seen.{node_seen}
use Rattle.kept_nodes.specs.declared.node.Node.{Node as Kept}

-- ---- one group more, and one node more

module _ {X : Type 0} (so_far new whole : List X) where
  pub goes_on : (part rest all : List X) → new ≡ so_far ++ part → all ≡ part ++ rest → so_far ++ all ≡ whole → new ++ rest ≡ whole
  goes_on part rest all is e h = ap (λ l. l ++ rest) is ∙ append_assoc so_far part rest ∙ ap (λ l. so_far ++ l) (sym e) ∙ h

  module _ (boxes : Boxes) (k : ℕ) (b : Box Kept Global) (within : k < length boxes) (is : b ≡ get_or boxes k b) where
    next : seen_in (drop k boxes) ≡ node_seen b.value ∷ seen_in (drop (k + 1) boxes)
    next = ap seen_in (drop_more boxes k b within ∙ ap (λ x. x ∷ drop (k + 1) boxes) (sym is))

    pub node_mapped : (f : Node → X) → new ≡ so_far ++ f (node_seen b.value) ∷ [] → so_far ++ map f (seen_in (drop k boxes)) ≡ whole → new ++ map f (seen_in (drop (k + 1) boxes)) ≡ whole
    node_mapped f same h = goes_on (f (node_seen b.value) ∷ []) (map f (seen_in (drop (k + 1) boxes))) (map f (seen_in (drop k boxes))) same (ap (map f) next) h

    pub node_flat : (f : Node → List X) → new ≡ so_far ++ f (node_seen b.value) → so_far ++ flat_map f (seen_in (drop k boxes)) ≡ whole → new ++ flat_map f (seen_in (drop (k + 1) boxes)) ≡ whole
    node_flat f same h = goes_on (f (node_seen b.value)) (flat_map f (seen_in (drop (k + 1) boxes))) (flat_map f (seen_in (drop k boxes))) same (ap (flat_map f) next) h

  -- an element more
  pub element_mapped : {R : Type 0} (f : R → X) (refs : List R) (k : ℕ) (r : R) → k < length refs → r ≡ get_or refs k r → new ≡ so_far ++ f r ∷ [] → so_far ++ map f (drop k refs) ≡ whole → new ++ map f (drop (k + 1) refs) ≡ whole
  element_mapped f refs k r within is same h =
      goes_on (f r ∷ []) (map f (drop (k + 1) refs)) (map f (drop k refs)) same (ap (map f) (drop_more refs k r within ∙ ap (λ x. x ∷ drop (k + 1) refs) (sym is))) h

-- ---- a sort of references

pub by_rank_total : IsTotalOrder by_rank
by_rank_total = on_total rank_of rank_cmp_total

module _ {A P : Type 0} (f : P → A) (cmp : A → A → Ordering) where
  if_map : (b : Bool) (x y : P) (ys more : List P) (placed : List A) → map f more ≡ placed → map f (if b then y ∷ more else x ∷ y ∷ ys) ≡ (if b then f y ∷ placed else f x ∷ f y ∷ map f ys)
  if_map true x y ys more placed h = ap (λ l. f y ∷ l) h
  if_map false x y ys more placed h = refl

  map-insert : (x : P) (ys : List P) → map f (insert_by (λ p q. cmp (f p) (f q)) x ys) ≡ insert_by cmp (f x) (map f ys)
  map-insert x [] = refl
  map-insert x (y ∷ ys) =
      if_map (is_gt (cmp (f x) (f y))) x y ys (insert_by (λ p q. cmp (f p) (f q)) x ys) (insert_by cmp (f x) (map f ys)) (map-insert x ys)

  map-sorted : (xs : List P) → map f (sorted_by (λ p q. cmp (f p) (f q)) xs) ≡ sorted_by cmp (map f xs)
  map-sorted [] = refl
  map-sorted (x ∷ xs) = map-insert x (sorted_by (λ p q. cmp (f p) (f q)) xs) ∙ ap (insert_by cmp (f x)) (map-sorted xs)

  pub sorted_references : IsTotalOrder cmp → (refs ys : List P) → IsSortedBy (λ p q. is_lt (cmp (f p) (f q))) ys → IsStableBy (λ p q. is_lt (cmp (f p) (f q))) refs ys → map f ys ≡ sorted_by cmp (map f refs)
  sorted_references o refs ys up stable = ap (map f) (sorted_lem (λ p q. cmp (f p) (f q)) (on_total f o) refs ys up stable) ∙ map-sorted refs

-- ---- what is listed in parts

two_parts : {X : Type 0} (x y z a b : List X) → y ≡ x ++ a → z ≡ y ++ b → z ≡ x ++ (a ++ b)
two_parts x y z a b p q = q ∙ ap (λ l. l ++ b) p ∙ append_assoc x a b

pub five_parts : {X : Type 0} (x0 x1 x2 x3 x4 x5 a b c d e : List X) → x1 ≡ x0 ++ a → x2 ≡ x1 ++ b → x3 ≡ x2 ++ c → x4 ≡ x3 ++ d → x5 ≡ x4 ++ e → x5 ≡ x0 ++ (a ++ (b ++ (c ++ (d ++ e))))
five_parts x0 x1 x2 x3 x4 x5 a b c d e p q r s t =
    two_parts x0 x1 x5 a (b ++ (c ++ (d ++ e))) p (two_parts x1 x2 x5 b (c ++ (d ++ e)) q (two_parts x2 x3 x5 c (d ++ e) r (two_parts x3 x4 x5 d e s t)))
