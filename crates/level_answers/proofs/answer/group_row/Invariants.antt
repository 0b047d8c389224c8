use Rattle.std.proofs.Common.{◌≡◌, ◌++◌, drop, map}
use Rattle.query_plan.specs.means_spec.Groups.{group_cell}
use Rattle.level_answers.specs.Fitting.{SumsFit}
use Rattle.level_answers.specs.Grouped.{group_seen}
use Rattle.query_rows.specs.Referred.{selected_of}
use Rattle.level_answers.proofs.answer.group_row.Given as goal

abbrev pub invariant-loop-output : goal.invariant-loop-output
invariant-loop-output l =
    SumsFit l.entity (group_seen l.group) (selected_of l.outputs)
    → SumsFit l.entity (group_seen l.group) (selected_of (drop l.output-index l.outputs))
    × (l.cells ++ map (group_cell l.entity (group_seen l.group)) (selected_of (drop l.output-index l.outputs)) ≡ map (group_cell l.entity (group_seen l.group)) (selected_of l.outputs))
