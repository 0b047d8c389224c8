use Rattle.table_laws.proofs.PrintedRows.{printed_rows_are_json}
use Rattle.table_laws.proofs.rows.printed_rows_are_json.Goals as goal

pub returns : goal.returns
returns c = printed_rows_are_json
