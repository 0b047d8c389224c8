use Rattle.table_machine.proofs.ReportColumns.{reports_have_json_columns}
use Rattle.table_machine.proofs.commands.a_report_has_json_columns.Goals as goal

pub returns : goal.returns
returns c = reports_have_json_columns
