use Rattle.std.proofs.Common.{◌≡◌, ◌∙◌, ◌+◌, ℕ, List, ◌∷◌, map, drop, reverse, ap, sym}
use Rattle.std.proofs.lemmas.List.{drop_more}
use Rattle.query_plan.specs.means_spec.World.{World}
use Rattle.query_plan.specs.Plan.{Step}
use Rattle.query_rows.specs.Scenes.{world}
use Rattle.query_rows.proofs.TryLaws.{tried_then}
use Rattle.query_rows.proofs.Turns.{one_step_more}
use Rattle.query_rows.proofs.run.holds.Goals as goal

pub returns-in_err-step_on-clause-tried : goal.returns-in_err-step_on-clause-tried
returns-in_err-step_on-clause-tried g c = tried_then _ _ _ c.loop-ready.invariant.tried c.step_on.ensures.tried

pub loop-ready-preserved : goal.loop-ready-preserved
loop-ready-preserved g c =
    let ps : List (List ℕ) = map (λ x. g.P.Patterns.made_from x) c.args.compiled.now in
    let w : World = world c.args.scene.now (g.P.Patterns.says c.args.patterns.now) in
    let v : World = world c.args.scene.now (g.P.Patterns.says c.loop-ready.patterns) in
    let alike : v ≡ w = λ i. world c.args.scene.now (λ p t. c.loop-ready.invariant.same p t i) in
    let s : Step = c.ready-item.result in
    let ss : List Step = drop (c.loop-ready.ready-index + 1) c.args.steps.now in
    let is : drop c.loop-ready.ready-index c.args.steps.now ≡ s ∷ ss =
    drop_more c.args.steps.now c.loop-ready.ready-index s c.loop-ready-test.true ∙ sym (ap (λ (y : Step). y ∷ ss) c.ready-item.is) in
    record {
      same = λ p t. c.step_on.ensures.same p t ∙ c.loop-ready.invariant.same p t;
      calm = c.step_on.ensures.calm ∙ c.loop-ready.invariant.calm;
      silent = c.step_on.ensures.silent ∙ c.loop-ready.invariant.silent;
      tried = tried_then _ _ _ c.loop-ready.invariant.tried c.step_on.ensures.tried;
      rest =
          one_step_more w v alike ps c.args.found.now c.args.entity c.args.row.now (drop c.loop-ready.ready-index c.args.steps.now) s ss is (reverse c.loop-ready.stack.items)
          (reverse c.step_on.new.stack.items) _ c.in_ok-step_on.ensures.value c.loop-ready.invariant.rest;
    }
