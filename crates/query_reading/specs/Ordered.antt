-- Lists that rise: no element is above one behind it.
use Rattle.std.specs.Prelude.{◌≡◌, List, [], ◌∷◌, false}
use Rattle.std.specs.List.{AllByRecursion}
use Rattle.std.specs.Ordering.{is_gt}
use Rattle.std.specs.declared.cmp.Ordering.{Ordering}

abbrev pub From : {A : Type 0} → (A → A → Ordering) → A → List A → Type 0
From cmp x = AllByRecursion (λ y. is_gt (cmp x y) ≡ false)

abbrev pub Rises : {A : Type 0} → (A → A → Ordering) → List A → Type 0
Rises cmp [] = Unit {0}
Rises cmp (x ∷ xs) = From cmp x xs × Rises cmp xs
