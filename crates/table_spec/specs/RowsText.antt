-- The printed text of rows: a list of objects in compact form, with the columns in their order. A moment is a stamp with three
-- fraction digits, and an absent value is null.
use Rattle.std.specs.Prelude.{ℕ, ℤ, List, map, zip, ◌⊎◌}
use Rattle.std.proofs.Common.{inl, inr}
use Rattle.history_spec.specs.text_spec.Json.{Json, string, object, array, items_of, members_of}
use Rattle.history_spec.specs.text_spec.Compact.{compact}
use Rattle.history_spec.specs.text_spec.Stamp.{clock_text}
use Rattle.history_spec.specs.fleet_rows.Cell.{CellValue}
use Rattle.history_spec.specs.fleet_rows.Printed.{clock_at}
use Rattle.history_spec.specs.fleet_rows.declared.row.Entity.{Entity}
use Rattle.table_spec.specs.Columns.{columns}
use Rattle.table_spec.specs.Rows.{Cells}

abbrev pub cell_json : CellValue → Json
cell_json (inl m) = string (clock_text 3 (clock_at m))
cell_json (inr value) = value

abbrev pub row_object : Entity → Cells → Json
row_object entity cells = object (members_of (zip (columns entity) (map cell_json cells)))

abbrev pub rows_text : Entity → List Cells → List ℕ
rows_text entity rows = compact (array (items_of (map (row_object entity) rows)))
