use Rattle.std.proofs.Common.{◌≡◌, ◌∙◌, ◌+◌, ◌++◌, ℕ, List, [], ◌∷◌, map, drop, ap, sym, subst}
use Rattle.std.proofs.lemmas.List.{drop_more}
use Rattle.query_plan.specs.table_spec.Rows.{Cells}
use Rattle.query_plan.specs.means_spec.World.{World}
use Rattle.query_plan.specs.Plan as plan
use Rattle.query_plan.specs.Made.{stage_of, stages_of}
use Rattle.level_answers.specs.Levels.{IsStageAnswered}
use Rattle.query_rows.specs.Tables.{world_of}
use Rattle.query_engine.proofs.Stages.{sum_told, rows_on, sums_on, cost_on, cost_now, cost_whole}
use Rattle.query_rows.proofs.TryLaws.{tried_then}
use Rattle.query_engine.proofs.engine.solve.Goals as goal

pub loop-stage-preserved : goal.loop-stage-preserved
loop-stage-preserved g c =
    let ps : List (List ℕ) = map (λ x. g.P.Patterns.made_from x) c.args.compiled.now in
    let w : World = world_of c.args.tables.now (g.P.Patterns.says c.args.patterns.now) in
    let v : World = world_of c.args.tables.now (g.P.Patterns.says c.loop-stage.patterns) in
    let alike : v ≡ w = λ i. world_of c.args.tables.now (λ p t. c.loop-stage.invariant.same p t i) in
    let found : List (List Cells) = c.loop-stage.found.items in
    let x : plan.Stage = stage_of c.stage-item.result in
    let xs : List plan.Stage = stages_of (drop (c.loop-stage.stage-index + 1) c.args.stages.now) in
    let is : stages_of (drop c.loop-stage.stage-index c.args.stages.now) ≡ x ∷ xs =
    ap stages_of (drop_more c.args.stages.now c.loop-stage.stage-index c.stage-item.result c.loop-stage-test.true) ∙ sym (ap (λ y. stage_of y ∷ xs) c.stage-item.is) in
    let pushed = c.in_ok-push-in-Rows.ensures.items ∙ ap (λ r. found ++ r ∷ []) c.in_ok-known_of-in-Rows.ensures in
    let told = subst (IsStageAnswered v ps found x) c.in-Rows.is (subst (λ f. IsStageAnswered v ps f x c.in_ok-answer.answer) c.as_slice.ensures.value c.in_ok-answer.ensures.value) in
    record {
      same = λ p t. c.in_ok-answer.ensures.same p t ∙ c.loop-stage.invariant.same p t;
      calm = c.in_ok-answer.ensures.calm ∙ c.loop-stage.invariant.calm;
      silent = c.in_ok-answer.ensures.silent ∙ c.loop-stage.invariant.silent;
      tried = tried_then _ _ _ c.loop-stage.invariant.tried c.in_ok-answer.ensures.tried;
      cost = λ r. cost_on _ x xs _ is _ _ _ _ (c.loop-stage.invariant.cost r) (c.in_ok-answer.ensures.cost r);
      rows = rows_on w v alike ps found x xs _ is c.in-Rows.rows c.push.new.self.items told.1 pushed _ c.loop-stage.invariant.rows;
      sums = sums_on w v alike ps found x xs _ is c.in-Rows.rows c.push.new.self.items told.1 pushed _ told.0 c.loop-stage.invariant.sums;
    }

pub returns-in-TooLarge-clause-value : goal.returns-in-TooLarge-clause-value
returns-in-TooLarge-clause-value g c =
    let ps : List (List ℕ) = map (λ x. g.P.Patterns.made_from x) c.args.compiled.now in
    let w : World = world_of c.args.tables.now (g.P.Patterns.says c.args.patterns.now) in
    let v : World = world_of c.args.tables.now (g.P.Patterns.says c.loop-stage.patterns) in
    let alike : v ≡ w = λ i. world_of c.args.tables.now (λ p t. c.loop-stage.invariant.same p t i) in
    let x : plan.Stage = stage_of c.stage-item.result in
    let xs : List plan.Stage = stages_of (drop (c.loop-stage.stage-index + 1) c.args.stages.now) in
    let is : stages_of (drop c.loop-stage.stage-index c.args.stages.now) ≡ x ∷ xs =
    ap stages_of (drop_more c.args.stages.now c.loop-stage.stage-index c.stage-item.result c.loop-stage-test.true) ∙ sym (ap (λ y. stage_of y ∷ xs) c.stage-item.is) in
    let told = subst (IsStageAnswered v ps c.loop-stage.found.items x) c.in-TooLarge.is (subst (λ f. IsStageAnswered v ps f x c.in_ok-answer.answer) c.as_slice.ensures.value c.in_ok-answer.ensures.value) in
    sum_told w v alike ps c.loop-stage.found.items x xs _ is _ c.in-TooLarge.place.now told c.loop-stage.invariant.sums

pub returns-in_err-answer-clause-tried : goal.returns-in_err-answer-clause-tried
returns-in_err-answer-clause-tried g c = tried_then _ _ _ c.loop-stage.invariant.tried c.in_err-answer.ensures.tried

pub returns-in_err-known_of-in-Rows-clause-tried : goal.returns-in_err-known_of-in-Rows-clause-tried
returns-in_err-known_of-in-Rows-clause-tried g c = tried_then _ _ _ c.loop-stage.invariant.tried c.in_ok-answer.ensures.tried

pub returns-in_err-push-in-Rows-clause-tried : goal.returns-in_err-push-in-Rows-clause-tried
returns-in_err-push-in-Rows-clause-tried g c = tried_then _ _ _ c.loop-stage.invariant.tried c.in_ok-answer.ensures.tried

pub returns-in-TooLarge-clause-tried : goal.returns-in-TooLarge-clause-tried
returns-in-TooLarge-clause-tried g c = tried_then _ _ _ c.loop-stage.invariant.tried c.in_ok-answer.ensures.tried

pub returns-in_err-answer-clause-cost : goal.returns-in_err-answer-clause-cost
returns-in_err-answer-clause-cost g c = λ r.
    let x : plan.Stage = stage_of c.stage-item.result in
    let xs : List plan.Stage = stages_of (drop (c.loop-stage.stage-index + 1) c.args.stages.now) in
    let is : stages_of (drop c.loop-stage.stage-index c.args.stages.now) ≡ x ∷ xs =
    ap stages_of (drop_more c.args.stages.now c.loop-stage.stage-index c.stage-item.result c.loop-stage-test.true) ∙ sym (ap (λ y. stage_of y ∷ xs) c.stage-item.is) in
    cost_now _ x xs _ is _ _ _ _ (c.loop-stage.invariant.cost r) (c.in_err-answer.ensures.cost r)

pub returns-in_err-known_of-in-Rows-clause-cost : goal.returns-in_err-known_of-in-Rows-clause-cost
returns-in_err-known_of-in-Rows-clause-cost g c = λ r.
    let x : plan.Stage = stage_of c.stage-item.result in
    let xs : List plan.Stage = stages_of (drop (c.loop-stage.stage-index + 1) c.args.stages.now) in
    let is : stages_of (drop c.loop-stage.stage-index c.args.stages.now) ≡ x ∷ xs =
    ap stages_of (drop_more c.args.stages.now c.loop-stage.stage-index c.stage-item.result c.loop-stage-test.true) ∙ sym (ap (λ y. stage_of y ∷ xs) c.stage-item.is) in
    cost_now _ x xs _ is _ _ _ _ (c.loop-stage.invariant.cost r) (c.in_ok-answer.ensures.cost r)

pub returns-in_err-push-in-Rows-clause-cost : goal.returns-in_err-push-in-Rows-clause-cost
returns-in_err-push-in-Rows-clause-cost g c = λ r.
    let x : plan.Stage = stage_of c.stage-item.result in
    let xs : List plan.Stage = stages_of (drop (c.loop-stage.stage-index + 1) c.args.stages.now) in
    let is : stages_of (drop c.loop-stage.stage-index c.args.stages.now) ≡ x ∷ xs =
    ap stages_of (drop_more c.args.stages.now c.loop-stage.stage-index c.stage-item.result c.loop-stage-test.true) ∙ sym (ap (λ y. stage_of y ∷ xs) c.stage-item.is) in
    cost_now _ x xs _ is _ _ _ _ (c.loop-stage.invariant.cost r) (c.in_ok-answer.ensures.cost r)

pub returns-in-TooLarge-clause-cost : goal.returns-in-TooLarge-clause-cost
returns-in-TooLarge-clause-cost g c = λ r.
    let x : plan.Stage = stage_of c.stage-item.result in
    let xs : List plan.Stage = stages_of (drop (c.loop-stage.stage-index + 1) c.args.stages.now) in
    let is : stages_of (drop c.loop-stage.stage-index c.args.stages.now) ≡ x ∷ xs =
    ap stages_of (drop_more c.args.stages.now c.loop-stage.stage-index c.stage-item.result c.loop-stage-test.true) ∙ sym (ap (λ y. stage_of y ∷ xs) c.stage-item.is) in
    cost_now _ x xs _ is _ _ _ _ (c.loop-stage.invariant.cost r) (c.in_ok-answer.ensures.cost r)

pub returns-clause-cost : goal.returns-clause-cost
returns-clause-cost g c = λ r. cost_whole _ _ _ _ (c.loop-stage.invariant.cost r)
