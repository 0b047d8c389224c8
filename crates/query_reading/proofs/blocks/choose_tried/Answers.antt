use Rattle.std.proofs.Common.{◌≡◌, ◌∙◌, ◌++◌, ℕ, List, Bool, map, ap, sym, subst}
use Rattle.std.specs.Prelude.{filter}
use Rattle.std.proofs.lemmas.Result.{IfOk-weaker}
use Rattle.query_plan.specs.Plan.{is_chosen}
use Rattle.query_plan.specs.Made.{stage_of}
use Rattle.query_plan.specs.table_spec.Rows.{Cells}
use Rattle.row_views.specs.Narrow.{shown_as}
use Rattle.query_rows.specs.Columns.{AreColumns}
use Rattle.query_rows.specs.Scenes.{world}
use Rattle.query_rows.proofs.TryLaws.{tried_then}
use Rattle.query_rows.specs.declared.blocks.Column.{Column}
use Rattle.query_reading.proofs.blocks.choose_tried.Goals as goal

pub choose_block-requires-clause-columns : goal.choose_block-requires-clause-columns
choose_block-requires-clause-columns g c =
    let ps : List (List ℕ) = map (λ x. g.P.Patterns.made_from x) c.args.compiled.now in
    let says : List ℕ → List ℕ → Bool = g.P.Patterns.says c.args.patterns.now in
    let now_says : List ℕ → List ℕ → Bool = g.P.Patterns.says c.seen_columns.new.patterns in
    let alike : now_says ≡ says = λ i. λ p t. c.seen_columns.ensures.same p t i in
    let shown : List Cells → List Cells = map (shown_as c.args.narrow c.args.entity) in
    let rows : List Cells = shown c.args.rows.items in
    subst (λ (m : List ℕ → List ℕ → Bool). AreColumns c.args.scene.now m ps c.args.stage.now.entity rows c.args.steps.now c.as_slice-list.result.now) (sym alike)
    (subst (λ (cs : List Column). AreColumns c.args.scene.now says ps c.args.stage.now.entity rows c.args.steps.now cs) (sym c.as_slice-list.ensures.value)
    (subst (λ (rs : List Cells). AreColumns c.args.scene.now says ps c.args.stage.now.entity (shown rs) c.args.steps.now c.in_ok-columns.columns.items) c.as_slice-seen.ensures.value c.in_ok-columns.ensures.value))

pub returns-clause-value : goal.returns-clause-value
returns-clause-value g c =
    let ps : List (List ℕ) = map (λ x. g.P.Patterns.made_from x) c.args.compiled.now in
    let test : (List ℕ → List ℕ → Bool) → Cells → Bool = λ m. is_chosen (world c.args.scene.now m) ps c.args.found.now (stage_of c.args.stage.now) in
    let says : List ℕ → List ℕ → Bool = g.P.Patterns.says c.args.patterns.now in
    let now_says : List ℕ → List ℕ → Bool = g.P.Patterns.says c.seen_columns.new.patterns in
    let alike : test now_says ≡ test says = λ i. test (λ p t. c.seen_columns.ensures.same p t i) in
    IfOk-weaker c.choose_block.result _ _ (λ u h. h ∙ ap (λ t. c.args.chosen.now ++ filter t c.args.rows.items) alike) c.choose_block.ensures.value

pub returns-clause-tried : goal.returns-clause-tried
returns-clause-tried g c = tried_then _ _ _ c.seen_columns.ensures.tried c.choose_block.ensures.tried
