use Rattle.table_laws.proofs.ShownColumns.{nodes_show_their_state, nodes_show_whether_they_are_inactive}
use Rattle.table_laws.proofs.nodes.a_node_shows_its_state.Goals as goal

pub returns-clause-state : goal.returns-clause-state
returns-clause-state c = nodes_show_their_state

pub returns-clause-inactive : goal.returns-clause-inactive
returns-clause-inactive c = nodes_show_whether_they_are_inactive
