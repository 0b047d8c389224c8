-- What several pins demand of one column.
use Rattle.std.specs.Prelude.{◌≡◌, ℕ, List, [], ◌∷◌, false, Bool, if◌then◌else◌}
use Rattle.std.specs.List.{list_all}
use Rattle.std.specs.Str.{bytes_eq}
use Rattle.query_plan.specs.table_spec.fleet_rows.Cell.{CellValue}
use Rattle.query_plan.specs.table_spec.Cells.{text_cell}
use Rattle.query_plan.specs.table_spec.Named.{text_equals}
use Rattle.query_reach.specs.Reach.{Pin}
use Rattle.query_reach.specs.declared.demands.Demand.{Demand}
use Rattle.query_reach.specs.declared.demands.Demand.TheVariants.{Nothing, Shows, Different}

-- the texts that one pin demands of the column
abbrev pub told_of : List ℕ → Pin → List (List ℕ)
told_of column p = if bytes_eq column p.column then p.text ∷ [] else []

-- the cell is each of the texts
abbrev pub is_each : List (List ℕ) → CellValue → Bool
is_each texts x = list_all (λ text. text_equals text x) texts

-- they are all this text, and there is one
abbrev pub IsOnly : List ℕ → List (List ℕ) → Type 0
IsOnly text texts = (x : CellValue) → is_each texts x ≡ text_equals text x

-- no text is demanded; or one, perhaps more than once; or different ones, which no text is
abbrev pub IsDemand : List (List ℕ) → Demand → Type 0
IsDemand texts Nothing = texts ≡ []
IsDemand texts (Shows text) = IsOnly text.now texts
IsDemand texts Different = (s : List ℕ) → is_each texts (text_cell s) ≡ false
