use Rattle.std.proofs.Common.{◌≡◌, [], take, length}
use Rattle.text_spec.specs.Json.{settled}
use Rattle.json_tree.specs.Tree.{pairs}
use Rattle.json_tree.specs.Marks.{mark_of}
use Rattle.json_tree.proofs.MarkLaws.{AreMarked}
use Rattle.json_tree.proofs.settled.are_apart.Given as goal

abbrev pub invariant-loop-at : goal.invariant-loop-at
invariant-loop-at l = record {
  count : length l.marks ≡ 2048;
  marked : AreMarked mark_of l.marks (pairs (take l.at l.list));
  same : settled [] (pairs (take l.at l.list)) ≡ pairs (take l.at l.list);
}
