use Rattle.table_machine.proofs.TableLaws.{fact_rows_are_of_nodes, active_fact_rows_are_of_nodes}
use Rattle.table_machine.proofs.rows.fact_rows_are_those_of_the_nodes.Goals as goal

pub returns-clause-all : goal.returns-clause-all
returns-clause-all c = fact_rows_are_of_nodes

pub returns-clause-active : goal.returns-clause-active
returns-clause-active c = active_fact_rows_are_of_nodes
