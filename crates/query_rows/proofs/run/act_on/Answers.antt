use Rattle.std.proofs.Common.{◌∙◌, ap, sym, ℕ, List, [], ◌∷◌, Bool, map, reverse}
use Rattle.query_plan.specs.Made.{step_of}
use Rattle.query_plan.specs.Plan.{act}
use Rattle.query_rows.specs.Scenes.{world}
use Rattle.std.proofs.lemmas.List.{reverse-append}
use Rattle.query_rows.proofs.run.act_on.Goals as goal

pub returns-in_ok-push-in-Selects-clause-value : goal.returns-in_ok-push-in-Selects-clause-value
returns-in_ok-push-in-Selects-clause-value g c =
    let ps : List (List ℕ) = map (λ x. g.P.Patterns.made_from x) c.args.compiled.now in
    let says : List ℕ → List ℕ → Bool = g.P.Patterns.says c.args.patterns.now in
    let stack = c.args.stack.now.items in
    ap reverse c.in_ok-push-in-Selects.ensures.items
    ∙ reverse-append stack (c.in_ok-selects-in-Selects.field-0 ∷ [])
    ∙ ap (λ b. b ∷ reverse stack) (c.in_ok-selects-in-Selects.ensures says)
    ∙ ap (λ s. act (world c.args.scene.now says) ps c.args.found.now c.args.entity c.args.row.now (step_of s) (reverse stack)) (sym c.in-Selects.is)
