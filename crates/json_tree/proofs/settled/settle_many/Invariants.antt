use Rattle.std.proofs.Common.{◌≡◌, []}
use Rattle.std.specs.Vec.Iter.{into_iter_items}
use Rattle.text_spec.specs.Json.{settled}
use Rattle.json_tree.specs.Tree.{pairs}
use Rattle.json_tree.specs.Indexes.{IsIndex}
use Rattle.json_tree.proofs.settled.settle_many.Given as goal

abbrev pub invariant-loop-key : goal.invariant-loop-key
invariant-loop-key l = record {
  can : (goal.iterator-loop-key).can_next l.key-iterator;
  ends : (goal.iterator-loop-key).is_finite l.key-iterator;
  index : IsIndex l.places (pairs l.done.items);
  rest : settled (pairs l.done.items) (pairs (into_iter_items l.key-iterator)) ≡ settled [] (pairs l.fn.list.items);
}
