use Rattle.std.proofs.Common.{◌∙◌, ◌||◌, ap}
use Rattle.std.specs.Str.{bytes_eq}
use Rattle.query_plan.specs.means_spec.Cells.{node_in}
use Rattle.query_reach.specs.Seen.{texts_seen}
use Rattle.query_reading.specs.Joins.{is_among}
use Rattle.query_reading.proofs.JoinLaws.{row_on}
use Rattle.query_reading.proofs.joins.by_node.Goals as goal

pub noting-preserved : goal.noting-preserved
noting-preserved c = λ s h.
    row_on (λ row. bytes_eq s (node_in c.args.entity row)) c.args.rows.now c.noting.row-index c.row-item.result (is_among (texts_seen c.noting.nodes.items) s) _ c.noting-test.true c.row-item.is (c.noting.invariant s h)
    (λ k. c.in_ok-note_node.ensures s (ap (λ t. bytes_eq s t || is_among (texts_seen c.noting.nodes.items) s) (c.node_in.ensures ∙ ap (node_in c.args.entity) c.as_slice.ensures) ∙ k))
