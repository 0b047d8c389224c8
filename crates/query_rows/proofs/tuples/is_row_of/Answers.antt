use Rattle.std.proofs.Common.{◌≡◌, ◌∙◌, List, map, ap, sym, subst}
use Rattle.std.specs.List.{list_any}
use Rattle.query_plan.specs.means_spec.Cells.{same_cells}
use Rattle.query_plan.specs.table_spec.Rows.{Cells}
use Rattle.query_rows.specs.Indexed.{places_under, holds_place, passes_at}
use Rattle.query_rows.specs.Marked.{key_text}
use Rattle.query_rows.specs.Scenes.{seen_cell}
use Rattle.query_rows.proofs.IndexLaws.{found_under}
use Rattle.query_rows.proofs.MarkLaws.{one_key_text}
use Rattle.query_rows.proofs.tuples.is_row_of.Goals as goal

pub returns : goal.returns
returns c =
    let xs : Cells = map (seen_cell c.args.scene.now c.args.entity c.args.row.now) c.args.fields.now in
    let rows : List Cells = c.args.rows.now in
    let text : c.as_slice.result.now ≡ key_text xs = c.as_slice.ensures.value ∙ c.in_ok-text.ensures in
    c.is_row_at.ensures
    ∙ ap (list_any (passes_at (same_cells xs) rows)) (c.places_under-places.ensures ∙ ap (places_under c.args.index.now) text)
    ∙ found_under (same_cells xs) rows c.args.index.now (key_text xs)
    (λ j row at h. subst (λ t. holds_place c.args.index.now t j) (sym (one_key_text xs row h)) (c.requires j row at))
