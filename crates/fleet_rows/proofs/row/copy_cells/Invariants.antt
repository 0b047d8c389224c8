use Rattle.std.proofs.Common.{◌≡◌, ◌++◌, drop}
use Rattle.fleet_rows.specs.Cell.{cells_of}
use Rattle.fleet_rows.proofs.row.copy_cells.Given as goal

abbrev pub invariant-loop-cell : goal.invariant-loop-cell
invariant-loop-cell l = l.copied ++ cells_of (drop l.cell-index l.list) ≡ cells_of l.list
