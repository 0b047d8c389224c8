use Rattle.std.proofs.Common.{◌≡◌, ◌+◌, ◌++◌, length, drop}
use Rattle.std.specs.Vec.Iter.{into_iter_items}
use Rattle.wire_catalog.specs.Distinct.{kept}
use Rattle.wire_catalog.proofs.distinct.kept.Given as goal

abbrev pub invariant-loop-edge : goal.invariant-loop-edge
invariant-loop-edge l = record {
  can : (goal.iterator-loop-edge).can_next l.edge-iterator;
  ends : (goal.iterator-loop-edge).is_finite l.edge-iterator;
  count : l.at + length (into_iter_items l.edge-iterator) ≡ length l.new.items;
  rest : l.done ++ kept (into_iter_items l.edge-iterator) (drop l.at l.new.items) ≡ kept l.fn.edges.items l.fn.new.items;
}
