use Rattle.std.proofs.Common.{◌≡◌, drop, map}
use Rattle.std.specs.List.{list_any}
use Rattle.query_plan.specs.means_spec.Sums.{sum_too_large}
use Rattle.level_answers.specs.Grouped.{group_seen}
use Rattle.level_answers.proofs.answer.some_too_large.Given as goal

abbrev pub invariant-loop-group : goal.invariant-loop-group
invariant-loop-group l = list_any (sum_too_large l.entity l.name) (map group_seen (drop l.group-index l.groups)) ≡ list_any (sum_too_large l.entity l.name) (map group_seen l.groups)
