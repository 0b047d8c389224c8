use Rattle.std.proofs.Common.{List, ◌∙◌, sym, ap, subst}
use Rattle.std.specs.Prelude.{filter}
use Rattle.query_plan.specs.Made.{shape_of}
use Rattle.query_plan.specs.Plan.{Shape}
use Rattle.query_plan.specs.means_spec.World.{rows_in}
use Rattle.query_plan.specs.query_spec.Check.{makes_groups}
use Rattle.query_plan.specs.query_spec.declared.parts.Selected.{Selected}
use Rattle.query_rows.specs.Tables.{world_of}
use Rattle.query_reading.specs.Stopping.{IsEnough}
use Rattle.query_reading.proofs.StoppingLaws.{enough_of_page}
use Rattle.query_reading.proofs.stopping.enough_for.Goals as goal

pub returns-else-makes_groups : goal.returns-else-makes_groups
returns-else-makes_groups c = λ says test.
    let rows = filter test (rows_in (world_of c.args.tables.now says) c.args.stage.now.entity) in
    subst (λ (s : Shape). IsEnough c.args.stage.now.entity s c.enough_in_order.result rows) (sym (ap shape_of c.in-Answers.is))
    (enough_of_page c.args.stage.now.entity c.in-Answers.shown.now c.in-Answers.group.now c.in-Answers.paging.now (ap (λ (ss : List Selected). makes_groups ss c.in-Answers.group.now) (sym c.shown_list.ensures) ∙ sym c.makes_groups.ensures ∙ c.if-makes_groups.false) c.enough_in_order.result rows (c.enough_in_order.ensures says test))
