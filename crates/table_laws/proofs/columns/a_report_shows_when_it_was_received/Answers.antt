use Rattle.table_laws.proofs.ShownColumns.{reports_show_their_receipt}
use Rattle.table_laws.proofs.columns.a_report_shows_when_it_was_received.Goals as goal

pub returns : goal.returns
returns c = reports_show_their_receipt
