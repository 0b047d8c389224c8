use Rattle.core_laws.proofs.OneThread.{rows_are_those_of_one_thread, the_table_is_that_of_one_thread}
use Rattle.core_laws.proofs.thread.the_tables_are_those_of_one_thread.Goals as goal

pub returns-clause-rows : goal.returns-clause-rows
returns-clause-rows c = rows_are_those_of_one_thread

pub returns-clause-table : goal.returns-clause-table
returns-clause-table c = the_table_is_that_of_one_thread
