use Rattle.std.proofs.Common.{◌≡◌, ◌++◌, map, take}
use Rattle.row_cells.specs.Shown.{shown_cell}
use Rattle.row_cells.proofs.shown.append.Given as goal

abbrev pub invariant-loop-column : goal.invariant-loop-column
invariant-loop-column l = l.cells ≡ l.fn.cells ++ map shown_cell (take l.column-index l.columns)
