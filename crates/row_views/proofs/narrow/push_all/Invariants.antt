use Rattle.std.proofs.Common.{◌≡◌, ◌++◌, drop}
use Rattle.fleet_tables.specs.fleet_rows.Cell.{cells_of}
use Rattle.row_views.proofs.narrow.push_all.Given as goal

abbrev pub invariant-loop-cell : goal.invariant-loop-cell
invariant-loop-cell l = l.cells ++ cells_of (drop l.cell-index l.row) ≡ l.fn.cells ++ cells_of l.row
