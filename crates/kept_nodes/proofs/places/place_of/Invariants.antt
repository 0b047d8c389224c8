use Rattle.std.proofs.Common.{◌-◌, ◌≤◌, length, take, drop}
use Rattle.kept_nodes.specs.Places.{nodes_in}
use Rattle.kept_nodes.proofs.NodePlaces.{AreBelow, AreAbove}
use Rattle.kept_nodes.proofs.places.place_of.Given as goal

abbrev pub invariant-halves : goal.invariant-halves
invariant-halves l = record {
  ordered : l.low ≤ l.high;
  within : l.high ≤ length l.nodes;
  below : AreBelow l.certname (take l.low (nodes_in l.nodes));
  above : AreAbove l.certname (drop l.high (nodes_in l.nodes));
}

abbrev pub decreases-halves : goal.decreases-halves
decreases-halves l = l.high - l.low
