use Rattle.std.proofs.Common.{◌≡◌, ℕ, List, [], take}
use Rattle.std.specs.BTreeMap.{get_by}
use Rattle.std.specs.Cmp.Lexicographic.{slice_cmp}
use Rattle.std.specs.Ordering.{nat_cmp}
use Rattle.text_spec.specs.Json.{settled}
use Rattle.json_tree.specs.Tree.{pairs}
use Rattle.json_tree.specs.Places.{index_of}
use Rattle.json_tree.proofs.settled.are_distinct.Given as goal

abbrev pub invariant-loop-member : goal.invariant-loop-member
invariant-loop-member l = record {
  at : l.at ≡ l.member-index;
  index : (q : List ℕ) → get_by (λ k. slice_cmp nat_cmp q k.now) l.places ≡ index_of q (pairs (take l.member-index l.list));
  same : settled [] (pairs (take l.member-index l.list)) ≡ pairs (take l.member-index l.list);
}
