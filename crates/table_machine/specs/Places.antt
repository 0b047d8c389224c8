-- Sorted lists in which each key occurs once.
use Rattle.std.specs.Prelude.{List, [], ◌∷◌, Option, Some, None}
use Rattle.std.specs.Ordering.{match_ordering}
use Rattle.std.specs.declared.cmp.Ordering.{Ordering}

-- `place` compares the key with an element. Changes the element with that key, or inserts the new one if there is none
abbrev pub put : {K : Type 0} → (K → Ordering) → K → (K → K) → List K → List K
put place new change [] = new ∷ []
put place new change (y ∷ ys) = match_ordering (place y) (new ∷ y ∷ ys) (change y ∷ ys) (y ∷ put place new change ys)

-- the element with that key
abbrev pub find : {K : Type 0} → (K → Ordering) → List K → Option K
find place [] = None
find place (y ∷ ys) = match_ordering (place y) None (Some y) (find place ys)

-- the sorted elements; of elements with equal keys only the last is kept
abbrev pub sorted : {K : Type 0} → (K → K → Ordering) → List K → List K
sorted order [] = []
sorted order (x ∷ xs) = put (order x) x (λ y. y) (sorted order xs)
