use Rattle.table_laws.proofs.Joins.{nodes_show_their_factset, nodes_show_their_catalog}
use Rattle.table_laws.proofs.nodes.a_node_shows_its_factset_and_catalog.Goals as goal

pub returns-clause-factset : goal.returns-clause-factset
returns-clause-factset c = nodes_show_their_factset

pub returns-clause-catalog : goal.returns-clause-catalog
returns-clause-catalog c = nodes_show_their_catalog
