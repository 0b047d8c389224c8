-- Sorted lists of texts.
use Rattle.std.specs.Prelude.{ℕ, List, [], ◌∷◌}
use Rattle.std.specs.Ordering.{match_ordering}
use Rattle.json_tree.specs.text_spec.Compact.{text_cmp}

-- inserts a text into a list sorted by bytes, unless it is in the list already
abbrev pub insert_text : List ℕ → List (List ℕ) → List (List ℕ)
insert_text x [] = x ∷ []
insert_text x (y ∷ ys) = match_ordering (text_cmp x y) (x ∷ y ∷ ys) (y ∷ ys) (y ∷ insert_text x ys)

-- each text once, sorted by bytes
abbrev pub sorted_texts : List (List ℕ) → List (List ℕ)
sorted_texts [] = []
sorted_texts (x ∷ xs) = insert_text x (sorted_texts xs)
