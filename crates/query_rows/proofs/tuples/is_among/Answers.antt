use Rattle.std.proofs.Common.{◌≡◌, ◌∙◌, ◌&&◌, List, true, false, not, map, ap, sym}
use Rattle.std.specs.List.{list_any}
use Rattle.std.proofs.lemmas.Result.{IfOk-weaker}
use Rattle.query_plan.specs.means_spec.Cells.{same_cells, is_null_cell}
use Rattle.query_plan.specs.table_spec.Rows.{Cells}
use Rattle.query_rows.specs.Scenes.{seen_cell}
use Rattle.query_rows.proofs.TupleLaws.{told_among}
use Rattle.query_rows.proofs.tuples.is_among.Goals as goal

pub returns-then-has_null : goal.returns-then-has_null
returns-then-has_null c =
    let xs : Cells = map (seen_cell c.args.scene.now c.args.entity c.args.row.now) c.args.fields.now in
    let rows : List Cells = c.args.known.now in
    let null : list_any is_null_cell xs ≡ true = sym c.has_null.ensures ∙ c.if-has_null.true in
    sym (told_among xs rows ∙ ap (λ b. not b && list_any (same_cells xs) rows) null)

pub returns : goal.returns
returns c =
    let xs : Cells = map (seen_cell c.args.scene.now c.args.entity c.args.row.now) c.args.fields.now in
    let rows : List Cells = c.args.known.now in
    let none : list_any is_null_cell xs ≡ false = sym c.has_null.ensures ∙ c.if-has_null.false in
    IfOk-weaker c.is_known_row.result _ _
    (λ b h. h ∙ sym (told_among xs rows ∙ ap (λ n. not n && list_any (same_cells xs) rows) none))
    c.is_known_row.ensures
