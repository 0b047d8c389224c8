use Rattle.std.proofs.Common.{◌≡◌, ◌∙◌, ◌+◌, ◌<◌, ℕ, List, Bool, [], ◌∷◌, map, drop, reverse, length, ap, sym, refl, subst, Option, Some, arith}
use Rattle.std.specs.Prelude.{slice_get}
use Rattle.std.proofs.lemmas.List.{drop_more}
use Rattle.std.proofs.lemmas.Option.{slice_get_read}
use Rattle.query_plan.specs.means_spec.World.{World}
use Rattle.query_plan.specs.Plan.{Step}
use Rattle.query_rows.specs.Columns.{IsGiven}
use Rattle.query_rows.specs.Scenes.{world}
use Rattle.query_rows.proofs.TryLaws.{tried_then}
use Rattle.query_rows.proofs.Turns.{one_step_more}
use Rattle.query_rows.proofs.blocks.holds_given.Goals as goal

pub step_given-requires : goal.step_given-requires
step_given-requires g c =
    let ps : List (List ℕ) = map (λ x. g.P.Patterns.made_from x) c.args.compiled.now in
    let says : List ℕ → List ℕ → Bool = g.P.Patterns.says c.args.patterns.now in
    let now_says : List ℕ → List ℕ → Bool = g.P.Patterns.says c.loop-k.patterns in
    let alike : now_says ≡ says = λ i. λ p t. c.loop-k.invariant.same p t i in
    let steps : List Step = c.args.steps.now in
    let k : ℕ = c.loop-k.k in
    let s : Step = c.index-steps-k.result in
    let within : k < length steps = omega (arith, c.loop-k-test.true, c.loop-k.auto.k-end) in
    let there : slice_get steps k ≡ Some s = slice_get_read steps (length steps) k s refl within c.index-steps-k.is in
    subst (λ (m : List ℕ → List ℕ → Bool). IsGiven c.args.scene.now m ps c.args.entity c.args.row.now c.given_at-given.result s) (sym alike)
    (subst (λ (o : Option Bool). IsGiven c.args.scene.now says ps c.args.entity c.args.row.now o s) (sym c.given_at-given.ensures) (c.requires k s there))

pub returns-in_err-step_given-clause-tried : goal.returns-in_err-step_given-clause-tried
returns-in_err-step_given-clause-tried g c = tried_then _ _ _ c.loop-k.invariant.tried c.step_given.ensures.tried

pub loop-k-preserved : goal.loop-k-preserved
loop-k-preserved g c =
    let ps : List (List ℕ) = map (λ x. g.P.Patterns.made_from x) c.args.compiled.now in
    let w : World = world c.args.scene.now (g.P.Patterns.says c.args.patterns.now) in
    let v : World = world c.args.scene.now (g.P.Patterns.says c.loop-k.patterns) in
    let alike : v ≡ w = λ i. world c.args.scene.now (λ p t. c.loop-k.invariant.same p t i) in
    let steps : List Step = c.args.steps.now in
    let k : ℕ = c.loop-k.k in
    let s : Step = c.index-steps-k.result in
    let ss : List Step = drop (k + 1) steps in
    let within : k < length steps = omega (arith, c.loop-k-test.true, c.loop-k.auto.k-end) in
    let is : drop k steps ≡ s ∷ ss = drop_more steps k s within ∙ sym (ap (λ (y : Step). y ∷ ss) c.index-steps-k.is) in
    record {
      same = λ p t. c.step_given.ensures.same p t ∙ c.loop-k.invariant.same p t;
      calm = c.step_given.ensures.calm ∙ c.loop-k.invariant.calm;
      silent = c.step_given.ensures.silent ∙ c.loop-k.invariant.silent;
      tried = tried_then _ _ _ c.loop-k.invariant.tried c.step_given.ensures.tried;
      rest =
          one_step_more w v alike ps c.args.found.now c.args.entity c.args.row.now (drop k steps) s ss is (reverse c.loop-k.stack.items) (reverse c.step_given.new.stack.items) _
          c.in_ok-step_given.ensures.value c.loop-k.invariant.rest;
    }
