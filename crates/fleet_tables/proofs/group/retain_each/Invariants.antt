use Rattle.std.proofs.Common.{◌≡◌, ◌++◌, take, drop, map}
use Rattle.std.specs.List.{AllByRecursion}
use Rattle.checkpoint_spec.specs.table_machine.Steps.{with_retained}
use Rattle.kept_nodes.specs.Kept.{IsNode}
use Rattle.kept_nodes.specs.Places.{nodes_in, seen_in}
use Rattle.fleet_tables.proofs.group.retain_each.Given as goal

abbrev pub invariant-sweeping : goal.invariant-sweeping
invariant-sweeping l = record {
  seen : seen_in l.node-items ≡ map (with_retained l.ttls l.retention) (take l.node-index (seen_in l.initial.node-items)) ++ drop l.node-index (seen_in l.initial.node-items);
  kept : AllByRecursion IsNode (nodes_in l.node-items);
}
