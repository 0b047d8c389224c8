use Rattle.table_laws.proofs.ReorderedRows.{the_order_between_purges_leaves_the_rows, the_order_between_purges_leaves_the_table, reordered_traces_are_traces}
use Rattle.table_laws.proofs.order.the_order_between_purges_leaves_the_rows.Goals as goal

pub returns-clause-rows : goal.returns-clause-rows
returns-clause-rows c = the_order_between_purges_leaves_the_rows

pub returns-clause-table : goal.returns-clause-table
returns-clause-table c = the_order_between_purges_leaves_the_table

pub returns-clause-trace : goal.returns-clause-trace
returns-clause-trace c = reordered_traces_are_traces
