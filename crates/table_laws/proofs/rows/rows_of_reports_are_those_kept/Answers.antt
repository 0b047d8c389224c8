use Rattle.table_laws.proofs.ShownRows.{reports_are_those_kept}
use Rattle.table_laws.proofs.rows.rows_of_reports_are_those_kept.Goals as goal

pub returns : goal.returns
returns c = reports_are_those_kept
