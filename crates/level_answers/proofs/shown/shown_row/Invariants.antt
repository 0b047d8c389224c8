use Rattle.std.proofs.Common.{◌≡◌, ◌++◌, drop, map}
use Rattle.fleet_tables.specs.fleet_rows.Cell.{cells_of}
use Rattle.query_plan.specs.means_spec.Shown.{column_cell}
use Rattle.query_rows.specs.Referred.{selected_of}
use Rattle.level_answers.proofs.shown.shown_row.Given as goal

abbrev pub invariant-loop-output : goal.invariant-loop-output
invariant-loop-output l = l.cells ++ map (column_cell l.entity (cells_of l.row)) (selected_of (drop l.output-index l.outputs)) ≡ map (column_cell l.entity (cells_of l.row)) (selected_of l.outputs)
