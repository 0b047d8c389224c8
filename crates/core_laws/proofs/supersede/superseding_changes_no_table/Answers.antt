use Rattle.core_laws.proofs.OneThread.{superseding_changes_no_table, superseding_changes_no_row}
use Rattle.core_laws.proofs.supersede.superseding_changes_no_table.Goals as goal

pub returns-clause-table : goal.returns-clause-table
returns-clause-table c = superseding_changes_no_table

pub returns-clause-rows : goal.returns-clause-rows
returns-clause-rows c = superseding_changes_no_row
