use Rattle.std.proofs.Common.{◌≡◌, ◌≤◌, ◌+◌, ◌∙◌, suc, sym, ap, ◌++◌, [], ◌∷◌, drop, length, slice_get, append_assoc, arith}
use Rattle.std.proofs.lemmas.List.{length-map, drop_all}
use Rattle.busy_commands.specs.history_spec.Facts.{fact_rows}
use Rattle.busy_commands.specs.table_spec.Cells.{fact_cells}
use Rattle.fleet_app.specs.Rows.{rows_behind, active}
use Rattle.busy_commands.proofs.of_table_laws.FactTables.{facts_are_those_of_the_history}
use Rattle.fleet_app.proofs.RowLaws.{row_at, active_text}
use Rattle.fleet_app.proofs.rows.rows_text.Goals as goal

pub put_row-requires : goal.put_row-requires
put_row-requires g c =
    let ttls = c.args.tables.now.ttls in
    let history = c.requires.stands.0 in
    let at = c.in_ok-row.ensures.stands history c.requires.stands.1 in
    let here = row_at (fact_rows ttls history) c.rows.i c.in_ok-row.row.cells (ap (λ rows. slice_get rows c.rows.i) (sym (facts_are_those_of_the_history ttls history)) ∙ at.1) in
    (here.row, c.as_slice.ensures ∙ here.cells_are)

pub rows-preserved : goal.rows-preserved
rows-preserved g c = λ history stands.
    let ttls = c.args.tables.now.ttls in
    let facts = fact_rows ttls history in
    let at = c.in_ok-row.ensures.stands history stands in
    let here = row_at facts c.rows.i c.in_ok-row.row.cells (ap (λ rows. slice_get rows c.rows.i) (sym (facts_are_those_of_the_history ttls history)) ∙ at.1) in
    let next : c.rows.i + 1 ≡ suc c.rows.i = omega arith in
    ap (λ n. c.put_row.new.out.items ++ rows_behind c.in_ok-later.later (active ttls history (drop n facts))) next
    ∙ c.in_ok-later.ensures history here.row (drop (suc c.rows.i) facts) stands (c.as_slice.ensures ∙ here.cells_are)
    ∙ ap (λ rows. c.rows.out.items ++ rows_behind c.rows.later (active ttls history rows)) (sym here.left)
    ∙ c.rows.invariant history stands

pub returns : goal.returns
returns g c = λ history stands.
    let ttls = c.args.tables.now.ttls in
    let facts = fact_rows ttls history in
    let count = c.count-i-end.ensures.stands history stands ∙ ap length (facts_are_those_of_the_history ttls history) ∙ length-map facts fact_cells in
    let past : length facts ≤ c.rows.i = omega (arith, count, c.rows-test.false) in
    let closed = ap (λ rows. c.rows.out.items ++ rows_behind c.rows.later (active ttls history rows)) (sym (drop_all c.rows.i facts past)) ∙ c.rows.invariant history stands in
    c.in_ok-extend_from_slice.ensures.items
    ∙ sym (append_assoc c.rows.out.items (93 ∷ []) (10 ∷ []))
    ∙ ap (λ text. text ++ 10 ∷ []) (closed ∙ active_text ttls history)
