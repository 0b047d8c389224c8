use Rattle.std.proofs.Common.{◌∙◌, ap, List, ℕ, [], ◌∷◌, map}
use Rattle.std.specs.Borrow.{Bor}
use Rattle.std.proofs.lemmas.List.{map-append}
use Rattle.pattern_port.specs.Course.{texts_of}
use Rattle.query_plan.specs.means_spec.Cells.{text_in}
use Rattle.query_plan.specs.table_spec.Rows.{Cells}
use Rattle.query_rows.specs.Columns.{text_or_none}
use Rattle.query_rows.specs.Scenes.{seen_cell}
use Rattle.query_rows.proofs.Filters.{mapped_on}
use Rattle.query_rows.proofs.blocks.texts_of.Goals as goal

pub loop-row-preserved : goal.loop-row-preserved
loop-row-preserved c =
    let shown : Cells → List ℕ = λ row. text_or_none (text_in (seen_cell c.args.scene.now c.args.entity row c.args.field.now)) in
    let rows : List Cells = c.args.rows.now in
    let more = ap texts_of c.in_ok-push.ensures.items ∙ map-append (λ (t : Bor (List ℕ)). t.now) c.loop-row.texts.items (c.text_of.result ∷ []) in
    mapped_on shown rows c.loop-row.row-index c.row-item.result (texts_of c.loop-row.texts.items) (texts_of c.push.new.self.items) (map shown rows) c.text_of.result.now c.loop-row-test.true c.row-item.is c.text_of.ensures more
    c.loop-row.invariant
