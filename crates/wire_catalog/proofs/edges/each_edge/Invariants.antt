use Rattle.std.proofs.Common.{◌≡◌, ◌+◌, ◌<◌, ◌^◌}
use Rattle.std.specs.Vec.Iter.{into_iter_items}
use Rattle.wire_fields.specs.json_tree.Tree.{jsons}
use Rattle.wire_fields.specs.wire_spec.Table.{edge, each_from}
use Rattle.wire_fields.proofs.of_wire_spec.CountedLaws.{listed}
use Rattle.wire_catalog.proofs.EachLaws.{after}
use Rattle.wire_catalog.proofs.edges.each_edge.Given as goal

abbrev pub invariant-loop-item : goal.invariant-loop-item
invariant-loop-item l = record {
  can : (goal.iterator-loop-item).can_next l.item-iterator;
  ends : (goal.iterator-loop-item).is_finite l.item-iterator;
  room : l.index + listed (jsons (into_iter_items l.item-iterator)) < 2 ^ 32;
  rest : after l.done.items (each_from l.index edge (jsons (into_iter_items l.item-iterator))) ≡ each_from 0 edge l.fn.items;
}
