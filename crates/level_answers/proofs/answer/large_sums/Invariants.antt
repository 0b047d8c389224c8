use Rattle.std.proofs.Common.{◌≡◌, drop, map}
use Rattle.query_plan.specs.means_spec.Sums.{large_sums}
use Rattle.level_answers.specs.Grouped.{group_seen}
use Rattle.level_answers.proofs.answer.large_sums.Given as goal

abbrev pub invariant-loop-selected : goal.invariant-loop-selected
invariant-loop-selected l = large_sums l.entity (map group_seen l.groups) (drop l.selected-index l.shown) ≡ large_sums l.entity (map group_seen l.groups) l.shown
