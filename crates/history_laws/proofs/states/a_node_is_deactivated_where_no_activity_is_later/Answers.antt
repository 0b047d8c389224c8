use Rattle.history_laws.proofs.NodeStates.{deactivated_nodes}
use Rattle.history_laws.proofs.states.a_node_is_deactivated_where_no_activity_is_later.Goals as goal

pub returns : goal.returns
returns c = deactivated_nodes
