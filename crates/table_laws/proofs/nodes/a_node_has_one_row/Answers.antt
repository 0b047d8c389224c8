use Rattle.table_laws.proofs.Joins.{nodes_have_one_row, rows_are_of_nodes}
use Rattle.table_laws.proofs.nodes.a_node_has_one_row.Goals as goal

pub returns-clause-one : goal.returns-clause-one
returns-clause-one c = nodes_have_one_row

pub returns-clause-others : goal.returns-clause-others
returns-clause-others c = rows_are_of_nodes
