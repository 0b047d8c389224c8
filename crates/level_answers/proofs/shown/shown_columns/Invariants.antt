use Rattle.std.proofs.Common.{◌≡◌, ◌++◌, drop, map}
use Rattle.query_plan.specs.means_spec.Shown.{column_cell}
use Rattle.query_rows.specs.Referred.{selected_of}
use Rattle.level_answers.proofs.shown.shown_columns.Given as goal

abbrev pub invariant-loop-row : goal.invariant-loop-row
invariant-loop-row l = l.lines ++ map (λ row. map (column_cell l.entity row) (selected_of l.outputs)) (drop l.row-index l.rows) ≡ map (λ row. map (column_cell l.entity row) (selected_of l.outputs)) l.rows
