use Rattle.std.proofs.Common.{◌≡◌, ◌++◌, drop}
use Rattle.fleet_tables.specs.fleet_rows.Cell.{cells_of}
use Rattle.query_rows.specs.Marked.{key_text}
use Rattle.query_rows.proofs.known.text_of_cells.Given as goal

abbrev pub invariant-loop-cell : goal.invariant-loop-cell
invariant-loop-cell l = l.text.items ++ key_text (cells_of (drop l.cell-index l.row)) ≡ key_text (cells_of l.row)
