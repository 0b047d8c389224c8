use Rattle.table_laws.proofs.FactTables.{facts_are_those_of_the_history, active_facts_are_those_of_the_history}
use Rattle.table_laws.proofs.rows.fact_rows_are_those_of_the_history.Goals as goal

pub returns-clause-all : goal.returns-clause-all
returns-clause-all c = facts_are_those_of_the_history

pub returns-clause-active : goal.returns-clause-active
returns-clause-active c = active_facts_are_those_of_the_history
