use Rattle.table_laws.proofs.SortedRows.{rows_are_sorted}
use Rattle.table_laws.proofs.order.rows_are_strictly_sorted.Goals as goal

pub returns : goal.returns
returns c = rows_are_sorted
