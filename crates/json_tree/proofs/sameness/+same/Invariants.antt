use Rattle.std.proofs.Common.{◌≡◌, length, drop}
use Rattle.text_spec.specs.Json.{members_of}
use Rattle.text_spec.specs.Order.{same_members}
use Rattle.json_tree.specs.Tree.{pairs}
use Rattle.json_tree.proofs.SameLaws.{same_list}
use Rattle.json_tree.proofs.sameness.+same.Given as goal

abbrev pub invariant-same_items-loop-at : goal.invariant-same_items-loop-at
invariant-same_items-loop-at l = record {
  sizes : length l.a ≡ length l.b;
  left : same_list (drop l.at l.a) (drop l.at l.b) ≡ same_list l.a l.b;
}

abbrev pub invariant-same_members-loop-at : goal.invariant-same_members-loop-at
invariant-same_members-loop-at l = record {
  sizes : length l.a ≡ length l.b;
  left : same_members (members_of (pairs (drop l.at l.a))) (pairs l.b) ≡ same_members (members_of (pairs l.a)) (pairs l.b);
}
