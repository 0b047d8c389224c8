-- Statements on cells by the names of their columns, and on equality with a text.
use Rattle.std.specs.Prelude.{◌≡◌, ◌↔◌, ℕ, ℤ, List, slice_get, true, Some, None}
use Rattle.table_machine.specs.text_spec.Json.{Json, null, string}
use Rattle.table_machine.specs.text_spec.StampReader.{stamp_of}
use Rattle.table_machine.specs.fleet_rows.Cell.{CellValue, stamp, plain}
use Rattle.table_machine.specs.fleet_rows.Columns.{column_name, columns_of, first_named, place_of}
use Rattle.table_machine.specs.fleet_rows.declared.column.Column.{Column}
use Rattle.table_machine.specs.fleet_rows.declared.row.Entity.{Entity}
use Rattle.table_machine.specs.table_spec.Columns.{columns}
use Rattle.table_machine.specs.table_spec.Named.{cell_under, text_equals}
use Rattle.table_machine.specs.table_spec.Rows.{Cells}

-- a column's name finds the cell at the column's index
abbrev pub CellsStandUnderTheirColumns : Type 0
CellsStandUnderTheirColumns =
    (entity : Entity) (column : Column) (place : ℕ) (row : Cells) (cell : CellValue)
    → place_of entity column ≡ Some place → slice_get row place ≡ Some cell → cell_under (columns entity) (column_name column) row ≡ cell

-- every other name finds null
abbrev pub OtherNamesHaveNull : Type 0
OtherNamesHaveNull =
    (entity : Entity) (name : List ℕ) (row : Cells)
    → first_named name (columns_of entity) ≡ None → cell_under (columns entity) name row ≡ plain null

-- a text equals exactly one JSON value: the string of that text
abbrev pub TextsEqualThemselves : Type 0
TextsEqualThemselves = (s : List ℕ) (j : Json) → (text_equals s (plain j) ≡ true) ↔ (j ≡ string s)

-- a text equals a moment exactly if it is a stamp of that moment
abbrev pub StampsEqualTheirMoments : Type 0
StampsEqualTheirMoments = (s : List ℕ) (m : ℤ) → (text_equals s (stamp m) ≡ true) ↔ (stamp_of s ≡ Some m)
