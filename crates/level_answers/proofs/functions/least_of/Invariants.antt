use Rattle.std.proofs.Common.{◌≡◌, drop, map}
use Rattle.query_plan.specs.means_spec.Cells.{cell_in}
use Rattle.query_plan.specs.means_spec.Groups.{told, least_of}
use Rattle.level_answers.specs.Best.{cells_told, least_behind}
use Rattle.query_rows.specs.Referred.{rows_of}
use Rattle.level_answers.proofs.functions.least_of.Given as goal

abbrev pub invariant-loop-row : goal.invariant-loop-row
invariant-loop-row l = least_behind (cells_told l.best) (told (map (cell_in l.entity l.name) (rows_of (drop l.row-index l.rows)))) ≡ least_of (told (map (cell_in l.entity l.name) (rows_of l.rows)))
