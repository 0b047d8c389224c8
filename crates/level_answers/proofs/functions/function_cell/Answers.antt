use Rattle.std.proofs.Common.{◌∙◌, ap, sym, map}
use Rattle.std.proofs.lemmas.Result.{IfOk-weaker}
use Rattle.query_plan.specs.means_spec.Cells.{cell_in}
use Rattle.query_plan.specs.means_spec.Groups.{function_of}
use Rattle.query_rows.specs.Referred.{rows_of}
use Rattle.level_answers.proofs.functions.function_cell.Goals as goal

pub returns-in-Sum : goal.returns-in-Sum
returns-in-Sum c =
    IfOk-weaker c.column_sum.result _ _ (λ cell h small. h (small c.in-Sum.is) ∙ ap (λ f. function_of f (map (cell_in c.args.entity c.args.name.now) (rows_of c.args.rows.now))) (sym c.in-Sum.is)) c.column_sum.ensures
