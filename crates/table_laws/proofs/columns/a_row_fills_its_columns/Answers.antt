use Rattle.table_laws.proofs.EachRow.{columns_are_strictly_sorted, rows_fill_their_columns}
use Rattle.table_laws.proofs.columns.a_row_fills_its_columns.Goals as goal

pub returns-clause-sorted : goal.returns-clause-sorted
returns-clause-sorted c = columns_are_strictly_sorted

pub returns-clause-filled : goal.returns-clause-filled
returns-clause-filled c = rows_fill_their_columns
