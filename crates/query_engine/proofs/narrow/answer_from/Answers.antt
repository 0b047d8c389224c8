use Rattle.std.proofs.Common.{◌∙◌, List, subst}
use Rattle.std.proofs.lemmas.Result.{IfOk-weaker}
use Rattle.query_plan.specs.table_spec.Rows.{Cells}
use Rattle.level_answers.specs.Levels.{IsAnswered}
use Rattle.query_engine.proofs.NarrowAnswers.{from_lines}
use Rattle.query_engine.proofs.narrow.answer_from.Goals as goal

pub returns-then-makes_groups : goal.returns-then-makes_groups
returns-then-makes_groups c =
    IfOk-weaker c.group_answer.result _ _
    (λ x h. from_lines c.args.entity c.args.shown.now c.args.group.now c.args.paging.now c.narrow_for-narrow.result c.narrow_for-narrow.ensures c.args.rows x
    (subst (λ (rows : List Cells). IsAnswered c.args.entity c.args.shown.now c.args.group.now c.args.paging.now rows x) (c.as_slice.ensures.value ∙ c.in_ok-views.ensures) h))
    c.group_answer.ensures

pub returns : goal.returns
returns c =
    IfOk-weaker c.page_answer.result _ _
    (λ x h. from_lines c.args.entity c.args.shown.now c.args.group.now c.args.paging.now c.narrow_for-narrow.result c.narrow_for-narrow.ensures c.args.rows x
    (subst (λ (rows : List Cells). IsAnswered c.args.entity c.args.shown.now c.args.group.now c.args.paging.now rows x) c.in_ok-lines.ensures h))
    c.page_answer.ensures
