-- Whether a list ends with a given text.
use Rattle.std.specs.Prelude.{ℕ, List, [], ◌∷◌, Bool, false}
use Rattle.std.specs.Str.{bytes_eq}

abbrev pub ends_with : List (List ℕ) → List ℕ → Bool
ends_with [] t = false
ends_with (x ∷ []) t = bytes_eq x t
ends_with (x ∷ y ∷ ys) t = ends_with (y ∷ ys) t
