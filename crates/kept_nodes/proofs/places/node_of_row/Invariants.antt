use Rattle.std.proofs.Common.{◌-◌, ◌<◌, ◌≤◌, length, take}
use Rattle.kept_nodes.specs.Counted.{none, count_of, total_from}
use Rattle.kept_nodes.specs.Places.{nodes_in}
use Rattle.kept_nodes.proofs.places.node_of_row.Given as goal

abbrev pub invariant-halves : goal.invariant-halves
invariant-halves l = record {
  ordered : l.low < l.high;
  within : l.high ≤ length l.nodes;
  before : count_of l.entity (total_from none (take l.low (nodes_in l.nodes))) ≤ l.i;
  behind : l.i < count_of l.entity (total_from none (take l.high (nodes_in l.nodes)));
}

abbrev pub decreases-halves : goal.decreases-halves
decreases-halves l = l.high - l.low
