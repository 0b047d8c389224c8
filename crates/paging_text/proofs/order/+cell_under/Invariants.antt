use Rattle.std.proofs.Common.{length}
use Rattle.paging_text.proofs.order.+cell_under.Given as goal

abbrev pub decreases-cell_under : goal.decreases-cell_under
decreases-cell_under l = length l.names.now
