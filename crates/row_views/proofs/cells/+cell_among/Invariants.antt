use Rattle.std.proofs.Common.{length}
use Rattle.row_views.proofs.cells.+cell_among.Given as goal

abbrev pub decreases-cell_among : goal.decreases-cell_among
decreases-cell_among l = length l.columns.now
