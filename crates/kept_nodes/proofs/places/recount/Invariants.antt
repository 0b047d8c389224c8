use Rattle.std.proofs.Common.{◌≡◌, ◌++◌, take, drop}
use Rattle.kept_nodes.specs.Counted.{total_from}
use Rattle.kept_nodes.specs.Places.{nodes_in, recounted}
use Rattle.kept_nodes.proofs.places.recount.Given as goal

-- what is counted, and what is left
abbrev pub invariant-loop-node : goal.invariant-loop-node
invariant-loop-node l = record {
  nodes : take l.node-index (nodes_in l.node-items) ++ recounted l.before (drop l.node-index (nodes_in l.node-items)) ≡ recounted l.initial.before (nodes_in l.initial.node-items);
  total : total_from l.before (drop l.node-index (nodes_in l.node-items)) ≡ total_from l.initial.before (nodes_in l.initial.node-items);
}
