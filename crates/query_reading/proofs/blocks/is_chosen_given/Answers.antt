use Rattle.std.proofs.Common.{◌≡◌, ◌∙◌, ap, sym, ◌&&◌, ℕ, List, Bool, true, map, [], rules}
use Rattle.std.proofs.lemmas.Result.{IfOk-weaker}
use Rattle.query_plan.specs.means_spec.Means.{is_seen}
use Rattle.query_plan.specs.Plan.{run, top}
use Rattle.query_rows.specs.Scenes.{world}
use Rattle.query_reading.proofs.blocks.is_chosen_given.Goals as goal

pub returns-then-branch-clause-value : goal.returns-then-branch-clause-value
returns-then-branch-clause-value g c =
    let ps : List (List ℕ) = map (λ x. g.P.Patterns.made_from x) c.args.compiled.now in
    let says : List ℕ → List ℕ → Bool = g.P.Patterns.says c.args.patterns.now in
    let w = world c.args.scene.now says in
    let row = c.args.row.now in
    let wanted : c.in_ok-holds_given.field-0 ≡ true = search rules in
    let told : top (run w ps c.args.found.now c.args.stage.now.entity row c.args.stage.now.steps []) ≡ true =
    ap (λ ss. top (run w ps c.args.found.now c.args.stage.now.entity row ss [])) (sym c.requires.steps) ∙ sym c.in_ok-holds_given.ensures.value ∙ wanted in
    IfOk-weaker c.is_seen_once.result _ _
    (λ b h. h says ∙ ap (λ t. t && is_seen w c.args.stage.now.entity c.args.stage.now.state row) (sym told))
    c.is_seen_once.ensures.value
