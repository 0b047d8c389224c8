use Rattle.std.proofs.Common.{◌∙◌, sym, map}
use Rattle.query_plan.specs.means_spec.Cells.{same_cells}
use Rattle.query_rows.specs.Indexed.{passes_at}
use Rattle.query_rows.specs.Scenes.{seen_cell}
use Rattle.query_rows.proofs.IndexLaws.{any_here, any_on}
use Rattle.query_rows.proofs.tuples.is_row_at.Goals as goal

pub returns-then-is_row_there : goal.returns-then-is_row_there
returns-then-is_row_there c =
    let test = passes_at (same_cells (map (seen_cell c.args.scene.now c.args.entity c.args.row.now) c.args.fields.now)) c.args.rows.now in
    any_here test c.args.places.now c.loop-place.place-index c.loop-place-test.true _ c.loop-place.invariant (sym c.is_row_there.ensures ∙ c.if-is_row_there.true)

pub loop-place-preserved : goal.loop-place-preserved
loop-place-preserved c =
    let test = passes_at (same_cells (map (seen_cell c.args.scene.now c.args.entity c.args.row.now) c.args.fields.now)) c.args.rows.now in
    any_on test c.args.places.now c.loop-place.place-index c.loop-place-test.true _ c.loop-place.invariant (sym c.is_row_there.ensures ∙ c.if-is_row_there.false)
