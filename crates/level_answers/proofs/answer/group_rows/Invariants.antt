use Rattle.std.proofs.Common.{◌≡◌, ◌++◌, drop, map}
use Rattle.query_plan.specs.means_spec.Groups.{Group, group_cell}
use Rattle.query_plan.specs.table_spec.Rows.{Cells}
use Rattle.level_answers.specs.Fitting.{AllSumsFit}
use Rattle.level_answers.specs.Grouped.{group_seen}
use Rattle.query_rows.specs.Referred.{selected_of}
use Rattle.level_answers.proofs.answer.group_rows.Given as goal

abbrev pub invariant-loop-group : goal.invariant-loop-group
invariant-loop-group l =
    let row : Group → Cells = λ x. map (group_cell l.entity x) (selected_of l.outputs) in
    AllSumsFit l.entity (selected_of l.outputs) (map group_seen l.groups)
    → AllSumsFit l.entity (selected_of l.outputs) (map group_seen (drop l.group-index l.groups))
    × (l.lines ++ map row (map group_seen (drop l.group-index l.groups)) ≡ map row (map group_seen l.groups))
