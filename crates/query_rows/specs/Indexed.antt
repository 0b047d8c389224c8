-- The indices of rows, found by a text for each row.
use Rattle.std.specs.Prelude.{◌≡◌, ◌≤◌, ℕ, zero, suc, List, [], ◌∷◌, ◌==◌, true, Bool, false, Option, Some, None, slice_get}
use Rattle.std.specs.List.{list_any}
use Rattle.std.specs.Option.{option_map_or}
use Rattle.query_plan.specs.table_spec.Rows.{Cells}
use Rattle.query_rows.specs.Marked.{number_of}
use Rattle.query_rows.specs.declared.index.Index.{Index}
use Rattle.query_rows.specs.declared.index.PlaceList.{PlaceList}

abbrev pub places_there : Option PlaceList → List ℕ
places_there None = []
places_there (Some l) = l.places.items

abbrev pub places_at : List PlaceList → ℕ → List ℕ
places_at ls q = places_there (slice_get ls q)

abbrev pub places_under : Index → List ℕ → List ℕ
places_under x text = option_map_or (places_at x.lists.items) (number_of x.numbers text) []

-- the index is stored under the text
abbrev pub holds_place : Index → List ℕ → ℕ → Type 0
holds_place x text place = list_any (λ p. p == place) (places_under x text) ≡ true

-- each row's index is stored under the row's text
abbrev pub IsIndexOf : (Cells → List ℕ) → List Cells → Index → Type 0
IsIndexOf text rows x = (j : ℕ) (row : Cells) → slice_get rows j ≡ Some row → holds_place x (text row) j

-- the indices are strictly increasing, from m on, and below n
abbrev pub AreRising : ℕ → List ℕ → ℕ → Type 0
AreRising m [] n = m ≤ n
AreRising m (p ∷ ps) n = (m ≤ p) × AreRising (suc p) ps n

-- under each number the indices are strictly increasing and below n
abbrev pub IsRising : Index → ℕ → Type 0
IsRising x n = (q : ℕ) → AreRising zero (places_at x.lists.items q) n

-- the item at this index passes the test
abbrev pub passes_at : {A : Type 0} → (A → Bool) → List A → ℕ → Bool
passes_at test list p = option_map_or test (slice_get list p) false
