use Rattle.std.proofs.Common.{◌≡◌, ◌-◌, drop}
use Rattle.json_tree.specs.Tree.{pairs}
use Rattle.json_tree.specs.NextMember.{rises}
use Rattle.json_tree.proofs.total_order.rises.Given as goal

abbrev pub invariant-loop-at : goal.invariant-loop-at
invariant-loop-at l = rises (pairs (drop (l.at - 1) l.list)) ≡ rises (pairs l.list)
