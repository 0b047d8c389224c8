use Rattle.std.proofs.Common.{◌≡◌, drop, map, pos, None}
use Rattle.query_plan.specs.means_spec.Cells.{cell_in}
use Rattle.query_plan.specs.means_spec.Groups.{scaled_numbers}
use Rattle.query_plan.specs.means_spec.Sums.{is_too_large}
use Rattle.level_answers.specs.Added.{so_far, sum_behind}
use Rattle.query_rows.specs.Referred.{rows_of}
use Rattle.level_answers.proofs.sums.sum_of.Given as goal

abbrev pub invariant-loop-row : goal.invariant-loop-row
invariant-loop-row l =
    let rest = scaled_numbers (map (cell_in l.entity l.name) (rows_of (drop l.row-index l.rows))) in
    let all = scaled_numbers (map (cell_in l.entity l.name) (rows_of l.rows)) in
    record {
      large : is_too_large (so_far l.total) rest ≡ is_too_large (pos 0) all;
      sum : sum_behind l.total rest ≡ sum_behind None all;
    }
