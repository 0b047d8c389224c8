use Rattle.std.proofs.Common.{◌∙◌, ap, map}
use Rattle.std.proofs.lemmas.Result.{IfOk-weaker}
use Rattle.query_plan.specs.means_spec.Cells.{cell_in}
use Rattle.query_plan.specs.means_spec.Groups.{scaled_numbers}
use Rattle.level_answers.specs.Added.{sum_cell}
use Rattle.query_rows.specs.Referred.{rows_of}
use Rattle.level_answers.proofs.SumLaws.{sum_is}
use Rattle.level_answers.proofs.functions.column_sum.Goals as goal

pub returns-in-Of : goal.returns-in-Of
returns-in-Of c =
    IfOk-weaker c.sum_cell.result _ _ (λ cell h small. h ∙ ap sum_cell c.in-Of.ensures.1 ∙ sum_is (scaled_numbers (map (cell_in c.args.entity c.args.name.now) (rows_of c.args.rows.now)))) c.sum_cell.ensures
