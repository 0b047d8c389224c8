use Rattle.std.proofs.Common.{◌≡◌, ◌∙◌, ℕ, List, Bool, map, subst}
use Rattle.std.proofs.lemmas.Result.{IfOk-weaker}
use Rattle.query_plan.specs.table_spec.Rows.{Cells}
use Rattle.query_rows.specs.Columns.{AreColumns}
use Rattle.query_rows.specs.declared.blocks.Column.{Column}
use Rattle.query_reading.proofs.blocks.tried_columns.Goals as goal

pub returns-clause-value : goal.returns-clause-value
returns-clause-value g c =
    let ps : List (List ℕ) = map (λ x. g.P.Patterns.made_from x) c.args.compiled.now in
    let says : List ℕ → List ℕ → Bool = g.P.Patterns.says c.args.patterns.now in
    IfOk-weaker c.columns_of.result _ _
    (λ columns h. subst (λ (rows : List Cells). AreColumns c.args.scene.now says ps c.args.stage.now.entity rows c.args.steps.now columns.items)
    (c.as_slice-seen.ensures.value ∙ c.in_ok-views.ensures) h)
    c.columns_of.ensures.value
