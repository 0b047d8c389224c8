use Rattle.history_laws.proofs.FactRows.{rows_are_strictly_sorted}
use Rattle.history_laws.proofs.rows.rows_are_strictly_sorted.Goals as goal

pub returns : goal.returns
returns c = rows_are_strictly_sorted
