use Rattle.std.proofs.Common.{◌≡◌, ◌∙◌, List, ap}
use Rattle.std.specs.List.{list_any}
use Rattle.fleet_tables.specs.fleet_rows.Cell.{CellValue}
use Rattle.query_plan.specs.means_spec.Cells.{equals}
use Rattle.query_plan.specs.query_spec.declared.parts.Literal.{Literal}
use Rattle.query_rows.specs.Indexed.{places_under, passes_at}
use Rattle.query_rows.specs.Marked.{cell_text}
use Rattle.row_views.specs.Seen.{seen_value}
use Rattle.query_rows.proofs.IndexLaws.{found_under}
use Rattle.query_rows.proofs.literals.equals_known.Goals as goal

pub returns : goal.returns
returns c =
    let cell : CellValue = seen_value c.args.seen.now in
    let test = λ (l : Literal). equals cell l.value in
    let list : List Literal = c.args.literals.now in
    let text : c.as_slice.result.now ≡ cell_text cell = c.as_slice.ensures.value ∙ c.in_ok-text.ensures in
    c.is_equal_at.ensures
    ∙ ap (list_any (passes_at test list)) (c.places_under.ensures ∙ ap (places_under c.args.index.now) text)
    ∙ found_under test list c.args.index.now (cell_text cell) (λ j l at h. c.requires j l at cell h)
