use Rattle.history_laws.proofs.NodeStates.{inactive_nodes, purged_nodes}
use Rattle.history_laws.proofs.states.a_node_is_inactive_where_it_is_deactivated_or_expired.Goals as goal

pub returns : goal.returns
returns c = record { inactive = inactive_nodes; purged = purged_nodes }
