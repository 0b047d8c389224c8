use Rattle.std.proofs.Common.{◌∙◌, ap, ℕ, List, Bool, map, false}
use Rattle.std.specs.Prelude.{slice_get}
use Rattle.std.specs.Option.{option_map_or}
use Rattle.std.proofs.lemmas.Result.{IfOk-weaker}
use Rattle.query_plan.specs.means_spec.Cells.{text_in}
use Rattle.query_rows.proofs.SceneLaws.{seen_is}
use Rattle.query_rows.proofs.run.fits.Goals as goal

pub returns-clause-value : goal.returns-clause-value
returns-clause-value g c =
    let ps : List (List ℕ) = map (λ x. g.P.Patterns.made_from x) c.args.compiled.now in
    let says : List ℕ → List ℕ → Bool = g.P.Patterns.says c.args.patterns.now in
    IfOk-weaker c.fits_seen.result _ _ (λ b h. h ∙ ap (λ x. option_map_or (λ p. option_map_or (says p) (text_in x) false) (slice_get ps c.args.at) false) (seen_is c.args.scene.now says c.args.entity c.args.row.now c.args.field.now)) c.fits_seen.ensures.value
