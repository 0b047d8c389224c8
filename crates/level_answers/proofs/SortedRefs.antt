-- Sorting what is referred to.
use Rattle.std.proofs.Common.{◌≡◌, ◌∙◌, List, [], ◌∷◌, Bool, true, false, map, refl, ap, if◌then◌else◌}
use Rattle.std.specs.Ordering.{is_gt}
use Rattle.std.specs.declared.cmp.Ordering.{Ordering}
use Rattle.query_plan.specs.table_spec.Sorted.{insert_by, sorted_by}

module _ {A P : Type 0} (f : P → A) (cmp : A → A → Ordering) where
  if_map : (b : Bool) (x y : P) (ys more : List P) (placed : List A) → map f more ≡ placed → map f (if b then y ∷ more else x ∷ y ∷ ys) ≡ (if b then f y ∷ placed else f x ∷ f y ∷ map f ys)
  if_map true x y ys more placed h = ap (λ l. f y ∷ l) h
  if_map false x y ys more placed h = refl

  map-insert : (x : P) (ys : List P) → map f (insert_by (λ p q. cmp (f p) (f q)) x ys) ≡ insert_by cmp (f x) (map f ys)
  map-insert x [] = refl
  map-insert x (y ∷ ys) = if_map (is_gt (cmp (f x) (f y))) x y ys (insert_by (λ p q. cmp (f p) (f q)) x ys) (insert_by cmp (f x) (map f ys)) (map-insert x ys)

  pub map_sorted : (xs : List P) → map f (sorted_by (λ p q. cmp (f p) (f q)) xs) ≡ sorted_by cmp (map f xs)
  map_sorted [] = refl
  map_sorted (x ∷ xs) = map-insert x (sorted_by (λ p q. cmp (f p) (f q)) xs) ∙ ap (insert_by cmp (f x)) (map_sorted xs)
