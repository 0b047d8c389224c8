use Rattle.std.proofs.Common.{◌≡◌, ◌+◌, ◌<◌, ◌^◌}
use Rattle.std.specs.Vec.Iter.{into_iter_items}
use Rattle.wire_fields.specs.json_tree.Tree.{jsons}
use Rattle.wire_fields.specs.wire_spec.Table.{each_from}
use Rattle.wire_fields.proofs.of_wire_spec.CountedLaws.{listed}
use Rattle.wire_catalog.specs.InOrder.{tag}
use Rattle.wire_catalog.proofs.EachLaws.{after}
use Rattle.wire_catalog.proofs.tags.each_tag.Given as goal

abbrev pub invariant-loop-item : goal.invariant-loop-item
invariant-loop-item l = record {
  can : (goal.iterator-loop-item).can_next l.item-iterator;
  ends : (goal.iterator-loop-item).is_finite l.item-iterator;
  room : l.at + listed (jsons (into_iter_items l.item-iterator)) < 2 ^ 32;
  rest : after l.done.items (each_from l.at (tag l.index) (jsons (into_iter_items l.item-iterator))) ≡ each_from 0 (tag l.index) l.fn.items;
}
