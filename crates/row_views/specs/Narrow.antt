-- Rows as they are seen by reference: with null in each column that isn't.
use Rattle.std.specs.Prelude.{ℕ, List, [], ◌∷◌, Bool, true, false, if◌then◌else◌}
use Rattle.std.specs.Str.{bytes_eq}
use Rattle.same_text.specs.text_spec.Json.{null}
use Rattle.fleet_tables.specs.fleet_rows.Cell.{CellValue, plain}
use Rattle.fleet_tables.specs.fleet_rows.declared.row.Entity.{Entity}
use Rattle.fleet_tables.specs.fleet_rows.declared.row.Entity.TheVariants.{Resources, Reports}

-- For each of the entity's columns, whether it is seen by reference. Columns behind the list are.
-- Of a resource these are not its line, parameters, hash and tags; of a report not its hash, logs, metrics, format and resources.
abbrev pub referred : Entity → List Bool
referred Resources = true ∷ true ∷ true ∷ true ∷ false ∷ false ∷ false ∷ false ∷ []
referred Reports = true ∷ true ∷ true ∷ true ∷ false ∷ false ∷ false ∷ true ∷ true ∷ true ∷ true ∷ true ∷ false ∷ false ∷ []
referred _ = []

-- the row with null in the other columns
abbrev pub narrowed : List Bool → List CellValue → List CellValue
narrowed [] xs = xs
narrowed (b ∷ bs) [] = []
narrowed (b ∷ bs) (x ∷ xs) = (if b then x else plain null) ∷ narrowed bs xs

-- whether the column with this name is seen by reference
abbrev pub is_referred : List (List ℕ) → List Bool → List ℕ → Bool
is_referred names [] s = true
is_referred [] (b ∷ bs) s = true
is_referred (n ∷ ns) (b ∷ bs) s = if bytes_eq s n then b else is_referred ns bs s

-- the row as it is seen: narrow or whole
abbrev pub shown_as : Bool → Entity → List CellValue → List CellValue
shown_as true e row = narrowed (referred e) row
shown_as false e row = row
