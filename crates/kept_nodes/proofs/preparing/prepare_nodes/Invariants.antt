use Rattle.std.proofs.Common.{◌≡◌, length}
use Rattle.std.specs.List.{AllByRecursion}
use Rattle.kept_nodes.specs.Counted.{numbers}
use Rattle.kept_nodes.specs.Kept.{IsNode}
use Rattle.kept_nodes.specs.Places.{nodes_in, seen_in}
use Rattle.kept_nodes.proofs.preparing.prepare_nodes.Given as goal

abbrev pub invariant-preparing : goal.invariant-preparing
invariant-preparing l = record {
  long : length l.nodes.items ≡ length l.fn.nodes.items;
  seen : seen_in l.nodes.items ≡ seen_in l.fn.nodes.items;
  kept : AllByRecursion IsNode (nodes_in l.nodes.items);
  numbers : numbers (nodes_in l.nodes.items) ≡ numbers (nodes_in l.fn.nodes.items);
}
