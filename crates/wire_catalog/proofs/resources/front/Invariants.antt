use Rattle.std.proofs.Common.{◌≡◌, ◌+◌, ◌<◌, ◌^◌}
use Rattle.std.specs.Vec.Iter.{into_iter_items}
use Rattle.wire_fields.specs.json_tree.Tree.{jsons}
use Rattle.wire_fields.proofs.of_wire_spec.CountedLaws.{listed}
use Rattle.wire_catalog.specs.Names.{front_of}
use Rattle.wire_catalog.proofs.NameLaws.{joined}
use Rattle.wire_catalog.proofs.resources.front.Given as goal

abbrev pub invariant-loop-item : goal.invariant-loop-item
invariant-loop-item l = record {
  can : (goal.iterator-loop-item).can_next l.item-iterator;
  ends : (goal.iterator-loop-item).is_finite l.item-iterator;
  room : l.index + listed (jsons (into_iter_items l.item-iterator)) < 2 ^ 32;
  rest : joined l.done (front_of l.index (jsons (into_iter_items l.item-iterator))) ≡ front_of 0 l.fn.items;
}
