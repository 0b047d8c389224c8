use Rattle.std.proofs.Common.{◌∙◌, [], ◌∷◌, ◌||◌, ap}
use Rattle.query_plan.specs.means_spec.Cells.{equal_cells}
use Rattle.query_plan.specs.table_spec.Cells.{text_cell}
use Rattle.query_reach.specs.Seen.{texts_seen}
use Rattle.query_reading.specs.Joins.{is_among}
use Rattle.query_reading.proofs.JoinLaws.{row_on}
use Rattle.query_reading.proofs.joins.by_cell.Goals as goal

pub noting-preserved : goal.noting-preserved
noting-preserved c = λ s h.
    row_on (equal_cells (text_cell s ∷ [])) c.args.rows.now c.noting.row-index c.row-item.result (is_among (texts_seen c.noting.nodes.items) s) _ c.noting-test.true c.row-item.is (c.noting.invariant s h)
    (λ k. c.in_ok-note_cell.ensures s (ap (λ r. equal_cells (text_cell s ∷ []) r || is_among (texts_seen c.noting.nodes.items) s) c.as_slice.ensures ∙ k))
