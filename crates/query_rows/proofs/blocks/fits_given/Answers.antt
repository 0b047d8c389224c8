use Rattle.std.proofs.Common.{◌∙◌, ◌&&◌, ap, ℕ, List, false, is_some}
use Rattle.std.specs.Prelude.{slice_get}
use Rattle.std.specs.Option.{option_map_or}
use Rattle.query_plan.specs.means_spec.Cells.{text_in}
use Rattle.query_rows.specs.Scenes.{seen_cell}
use Rattle.query_rows.proofs.BlockLaws.{both_fit}
use Rattle.query_rows.proofs.SceneLaws.{seen_is}
use Rattle.query_rows.proofs.blocks.fits_given.Goals as goal

pub returns : goal.returns
returns c = λ says ps j is.
    let o = text_in (seen_cell c.args.scene.now c.args.entity c.args.row.now c.args.field.now) in
    c.both.ensures
    ∙ ap (λ b. b && c.args.matches) c.names_text.ensures
    ∙ ap (λ b. is_some o && b) is
    ∙ both_fit says o (slice_get ps j)
    ∙ ap (λ x. option_map_or (λ q. option_map_or (says q) (text_in x) false) (slice_get ps j) false) (seen_is c.args.scene.now says c.args.entity c.args.row.now c.args.field.now)
