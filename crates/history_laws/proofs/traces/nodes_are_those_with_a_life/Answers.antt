use Rattle.history_laws.proofs.TraceLemmas.{nodes_are_strictly_sorted, nodes_have_a_life}
use Rattle.history_laws.proofs.traces.nodes_are_those_with_a_life.Goals as goal

pub returns : goal.returns
returns c = record { sorted = nodes_are_strictly_sorted; which = nodes_have_a_life }
