use Rattle.std.proofs.Common.{◌≡◌, ◌≤◌, ◌+◌, drop, map, length}
use Rattle.query_plan.specs.means_spec.Cells.{cell_in}
use Rattle.query_plan.specs.means_spec.Groups.{told}
use Rattle.query_rows.specs.Referred.{rows_of}
use Rattle.level_answers.proofs.functions.count_told.Given as goal

abbrev pub invariant-loop-row : goal.invariant-loop-row
invariant-loop-row l = record {
  bound : l.count ≤ l.row-index;
  told : l.count + length (told (map (cell_in l.entity l.name) (rows_of (drop l.row-index l.rows)))) ≡ length (told (map (cell_in l.entity l.name) (rows_of l.rows)));
}
