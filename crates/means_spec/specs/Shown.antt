-- What is shown of a row.
use Rattle.std.specs.Prelude.{ℕ, List, [], ◌∷◌, ◌++◌, if◌then◌else◌, Option, Some, None, map}
use Rattle.table_spec.specs.text_spec.Json.{null}
use Rattle.table_spec.specs.fleet_rows.Cell.{CellValue, plain}
use Rattle.table_spec.specs.fleet_rows.declared.row.Entity.{Entity}
use Rattle.query_spec.specs.declared.parts.Selected.{Selected}
use Rattle.query_spec.specs.declared.parts.Selected.TheVariants as selected
use Rattle.query_spec.specs.Check.{has_output}
use Rattle.query_spec.specs.Parts.{output_name}
use Rattle.table_spec.specs.Rows.{Cells}
use Rattle.means_spec.specs.Cells.{cell_in, names_in}

-- the first of the outputs with the same name, after the earlier ones
abbrev pub distinct_behind : List Selected → List Selected → List Selected
distinct_behind earlier [] = []
distinct_behind earlier (s ∷ ss) =
    if has_output earlier (output_name s) then distinct_behind earlier ss else s ∷ distinct_behind (earlier ++ s ∷ []) ss

abbrev pub distinct : List Selected → List Selected
distinct = distinct_behind []

-- the names of the outputs; those of all columns if nothing is said
abbrev pub output_names : Option Entity → Option (List Selected) → List (List ℕ)
output_names e None = names_in e
output_names e (Some ss) = map output_name (distinct ss)

-- what is shown of a single row; functions apply only to groups
abbrev pub column_cell : Option Entity → Cells → Selected → CellValue
column_cell e row (selected.Column n) = cell_in e n.text row
column_cell e row _ = plain null

abbrev pub shown_cells : Option Entity → Option (List Selected) → Cells → Cells
shown_cells e None row = row
shown_cells e (Some ss) row = map (column_cell e row) (distinct ss)
