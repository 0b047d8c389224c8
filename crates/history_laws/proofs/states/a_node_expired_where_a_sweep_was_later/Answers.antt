use Rattle.history_laws.proofs.NodeStates.{expired_nodes}
use Rattle.history_laws.proofs.states.a_node_expired_where_a_sweep_was_later.Goals as goal

pub returns : goal.returns
returns c = expired_nodes
