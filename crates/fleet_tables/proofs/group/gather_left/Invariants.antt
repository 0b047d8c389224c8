use Rattle.std.proofs.Common.{◌≡◌, ◌≤◌, ◌++◌, take, drop}
use Rattle.std.specs.List.{AllByRecursion}
use Rattle.kept_nodes.specs.Kept.{IsNode}
use Rattle.kept_nodes.specs.Places.{nodes_in, seen_in, left_by_purge}
use Rattle.fleet_tables.proofs.group.gather_left.Given as goal

-- what stays of the nodes so far, and what of the rest
abbrev pub invariant-gathering : goal.invariant-gathering
invariant-gathering l = record {
  before : l.left ≤ l.at;
  seen : seen_in (take l.left l.nodes) ++ left_by_purge l.ttls l.m l.expiry (seen_in (drop l.at l.nodes)) ≡ left_by_purge l.ttls l.m l.expiry (seen_in l.fn.nodes);
  kept : AllByRecursion IsNode (nodes_in (take l.left l.nodes));
  rest : AllByRecursion IsNode (nodes_in (drop l.at l.nodes));
}
