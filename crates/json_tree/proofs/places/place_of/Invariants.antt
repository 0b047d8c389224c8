use Rattle.std.proofs.Common.{◌≡◌, ◌+◌, drop}
use Rattle.std.specs.Prelude.{option_map}
use Rattle.json_tree.specs.Tree.{pairs}
use Rattle.json_tree.specs.Places.{index_of}
use Rattle.json_tree.proofs.places.place_of.Given as goal

abbrev pub invariant-loop-member : goal.invariant-loop-member
invariant-loop-member l = record {
  at : l.at ≡ l.member-index;
  left : option_map (λ i. l.at + i) (index_of l.name (pairs (drop l.member-index l.list))) ≡ index_of l.name (pairs l.list);
}
