use Rattle.std.proofs.Common.{◌≡◌, ◌∙◌, ℕ, List, Bool, map, ap, sym, subst}
use Rattle.std.proofs.lemmas.Result.{IfOk-weaker}
use Rattle.query_plan.specs.Made.{stage_of}
use Rattle.query_plan.specs.Plan.{is_chosen}
use Rattle.query_plan.specs.table_spec.Rows.{Cells}
use Rattle.query_rows.specs.Columns.{AreGiven}
use Rattle.query_rows.specs.Scenes.{world}
use Rattle.query_reading.proofs.NarrowLaws.{shown_alike}
use Rattle.query_reading.proofs.blocks.is_row_chosen_given.Goals as goal

pub is_chosen_given-requires-clause-given : goal.is_chosen_given-requires-clause-given
is_chosen_given-requires-clause-given g c =
    let ps : List (List ℕ) = map (λ x. g.P.Patterns.made_from x) c.args.compiled.now in
    let says : List ℕ → List ℕ → Bool = g.P.Patterns.says c.args.patterns.now in
    subst (λ (row : Cells). AreGiven c.args.scene.now says ps c.args.stage.now.entity row c.args.steps.now c.args.columns.now c.args.i) (sym c.in_ok-view.ensures) c.requires.given

pub returns-clause-value : goal.returns-clause-value
returns-clause-value g c =
    let ps : List (List ℕ) = map (λ x. g.P.Patterns.made_from x) c.args.compiled.now in
    let says : List ℕ → List ℕ → Bool = g.P.Patterns.says c.args.patterns.now in
    let w = world c.args.scene.now says in
    let s = stage_of c.args.stage.now in
    IfOk-weaker c.is_chosen_given.result _ _
    (λ b h. h ∙ ap (is_chosen w ps c.args.found.now s) c.in_ok-view.ensures ∙ shown_alike w ps c.args.found.now s c.args.entity c.args.narrow c.args.row.now c.requires.entity c.requires.narrow)
    c.is_chosen_given.ensures.value
