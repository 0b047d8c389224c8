use Rattle.list_again.proofs.HistoryTables.{tables_are_whole}
use Rattle.list_again.proofs.the_table_of_a_history_is_whole.Goals as goal

pub returns : goal.returns
returns c = tables_are_whole
