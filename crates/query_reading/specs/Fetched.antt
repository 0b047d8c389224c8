-- The rows of the facts that a filter names, in place of all rows of facts.
use Rattle.std.specs.Prelude.{◌≡◌, ℕ, List, [], ◌∷◌, Option, Some, None, flat_map, slice_get}
use Rattle.std.specs.List.{find}
use Rattle.query_plan.specs.means_spec.Cells.{is_fact}
use Rattle.query_plan.specs.table_spec.Rows.{Cells}

abbrev pub one_in : {A : Type 0} → Option A → List A
one_in None = []
one_in (Some x) = x ∷ []

-- the row at a place, if there is one
abbrev pub slice_one : List Cells → ℕ → List Cells
slice_one rows place = one_in (slice_get rows place)

-- the rows at places
abbrev pub picked : List Cells → List ℕ → List Cells
picked rows = flat_map (slice_one rows)

-- the row of the node's fact, if there is one
abbrev pub fact_row : List ℕ → List Cells → List ℕ → List Cells
fact_row node rows name = one_in (find (is_fact node name) rows)

-- for each name the row of the node's fact
abbrev pub fetched : List ℕ → List Cells → List (List ℕ) → List Cells
fetched node rows = flat_map (fact_row node rows)

-- both lists have the same fact of the node with this name
abbrev pub SameFact : List ℕ → List Cells → List Cells → List ℕ → Type 0
SameFact node some all name = find (is_fact node name) some ≡ find (is_fact node name) all
