use Rattle.history_laws.proofs.FactRows.{active_rows_are_of_active_nodes, active_rows_stand_in_order}
use Rattle.history_laws.proofs.rows.active_rows_are_of_active_nodes.Goals as goal

pub returns-clause-nodes : goal.returns-clause-nodes
returns-clause-nodes c = active_rows_are_of_active_nodes

pub returns-clause-order : goal.returns-clause-order
returns-clause-order c = active_rows_stand_in_order
