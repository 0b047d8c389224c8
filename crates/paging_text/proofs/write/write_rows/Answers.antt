use Rattle.std.proofs.Common.{◌≡◌, ◌∙◌, [], ◌++◌, ap, sym, length, drop, arith}
use Rattle.std.proofs.lemmas.List.{drop_all}
use Rattle.paging_text.specs.Shown.{rows_of, rows_behind}
use Rattle.paging_text.proofs.RowTexts.{rows_text_is}
use Rattle.paging_text.proofs.write.write_rows.Goals as goal

pub returns-clause-text : goal.returns-clause-text
returns-clause-text c =
    let rows = c.args.rows.now.rows in
    let names = c.args.rows.now.names in
    let none : drop c.loop-row.row-index rows ≡ [] = drop_all c.loop-row.row-index rows (omega (arith, c.loop-row-test.false, ap length c.as_slice-row-items.ensures)) in
    c.from_vec.ensures
    ∙ c.in_ok-push-2.ensures.items
    ∙ ap (λ rs. c.loop-row.out.items ++ rows_behind c.loop-row.later names rs) (sym none)
    ∙ c.loop-row.invariant

pub returns-clause-lines : goal.returns-clause-lines
returns-clause-lines c = λ printable.
    let rows = c.args.rows.now.rows in
    let names = c.args.rows.now.names in
    let none : drop c.loop-row.row-index rows ≡ [] = drop_all c.loop-row.row-index rows (omega (arith, c.loop-row-test.false, ap length c.as_slice-row-items.ensures)) in
    c.from_vec.ensures
    ∙ c.in_ok-push-2.ensures.items
    ∙ ap (λ rs. c.loop-row.out.items ++ rows_behind c.loop-row.later names rs) (sym none)
    ∙ c.loop-row.invariant
    ∙ rows_text_is (rows_of c.args.rows.now) printable
