use Rattle.std.proofs.Common.{◌≡◌, [], take, length}
use Rattle.text_spec.specs.Json.{settled}
use Rattle.json_tree.specs.Tree.{pairs}
use Rattle.json_tree.specs.Marks.{ends_mark}
use Rattle.json_tree.proofs.MarkLaws.{AreMarked}
use Rattle.json_tree.proofs.settled.are_distinct_few.Given as goal

abbrev pub invariant-loop-at : goal.invariant-loop-at
invariant-loop-at l = record {
  count : length l.marks ≡ 64;
  marked : AreMarked ends_mark l.marks (pairs (take l.at l.list));
  same : settled [] (pairs (take l.at l.list)) ≡ pairs (take l.at l.list);
}
