-- A row read by the names of its columns.
use Rattle.std.specs.Prelude.{ℕ, List, [], ◌∷◌, not, map, filter}
use Rattle.std.proofs.Common.{inl, inr}
use Rattle.std.specs.List.{list_any}
use Rattle.std.specs.Str.{bytes_eq}
use Rattle.table_machine.specs.text_spec.Json.{Json, string, object, members_of}
use Rattle.table_machine.specs.fleet_rows.Cell.{CellValue}
use Rattle.table_machine.specs.fleet_rows.Printed.{full_text}
use Rattle.table_machine.specs.fleet_rows.declared.row.Entity.{Entity}
use Rattle.table_machine.specs.table_spec.Columns.{columns}
use Rattle.table_machine.specs.table_spec.Named as table
use Rattle.table_machine.specs.table_spec.Rows.{Cells}

-- each cell paired with the name of its column
abbrev pub named : List (List ℕ) → Cells → List (List ℕ × CellValue)
named [] cells = []
named (name ∷ names) [] = []
named (name ∷ names) (cell ∷ cells) = (name, cell) ∷ named names cells

-- the cell in the entity's column of this name
abbrev pub cell_under : Entity → List ℕ → Cells → CellValue
cell_under entity name row = table.cell_under (columns entity) name row

-- the value that is hashed: a moment is its text with nine fraction digits
abbrev pub value_of_cell : CellValue → Json
value_of_cell (inl m) = string (full_text m)
value_of_cell (inr j) = j

abbrev pub value_under : Entity → List ℕ → Cells → Json
value_under entity name row = value_of_cell (cell_under entity name row)

-- the named values of the row, without those of these names
abbrev pub values_without : List (List ℕ) → Entity → Cells → List (List ℕ × Json)
values_without names entity row =
    map (λ c. (c.0, value_of_cell c.1)) (filter (λ c. not (list_any (bytes_eq c.0) names)) (named (columns entity) row))

-- these values as an object
abbrev pub object_without : List (List ℕ) → Entity → Cells → Json
object_without names entity row = object (members_of (values_without names entity row))
