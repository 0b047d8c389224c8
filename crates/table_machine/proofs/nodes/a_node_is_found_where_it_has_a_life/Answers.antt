use Rattle.table_machine.proofs.TableLaws.{table_nodes_are_sorted, nodes_are_found}
use Rattle.table_machine.proofs.nodes.a_node_is_found_where_it_has_a_life.Goals as goal

pub returns-clause-sorted : goal.returns-clause-sorted
returns-clause-sorted c = table_nodes_are_sorted

pub returns-clause-found : goal.returns-clause-found
returns-clause-found c = nodes_are_found
