use Rattle.std.proofs.Common.{◌∙◌, ◌+◌, ◌++◌, [], ℕ, List, sym, ap, drop}
use Rattle.std.proofs.lemmas.List.{drop_all}
use Rattle.query_plan.specs.means_spec.Groups.{key_of, first_rows}
use Rattle.query_plan.specs.table_spec.Rows.{Cells}
use Rattle.query_rows.specs.Marked.{row_marked, rows_marked}
use Rattle.query_rows.specs.declared.marks.Marked.{Marked}
use Rattle.level_answers.proofs.BegunLaws.{first_on, all_begun}
use Rattle.query_rows.proofs.MarkLaws.{left_behind}
use Rattle.query_rows.proofs.MarkLaws.{marks_at}
use Rattle.level_answers.proofs.groups.first_rows.Goals as goal

pub loop-row-preserved : goal.loop-row-preserved
loop-row-preserved c = λ b mark have.
    let key : Cells → Cells = key_of c.args.entity c.args.columns.now in
    let ms : List Marked = c.args.rows.now in
    let i : ℕ = c.loop-row.row-index in
    let m : Marked = c.row-item.result in
    let inv = c.loop-row.invariant b mark have in
    let here = marks_at b ms i m c.loop-row-test.true c.row-item.is inv.2 in
    let step = c.in_ok-begin.ensures b mark here.0 inv.1 in
    let so : List Cells = rows_marked c.loop-row.begun.items in
    let rest : List Cells = rows_marked (drop (i + 1) ms) in (
      first_on key so (rows_marked c.begin.new.begun.items) rest (first_rows key [] (rows_marked ms)) (row_marked m) step.0
          (ap (λ l. so ++ first_rows key so l) (sym (left_behind ms i m c.loop-row-test.true c.row-item.is)) ∙ inv.0),
      step.1,
      here.1,
    )

pub returns : goal.returns
returns c = λ b mark have.
    let key : Cells → Cells = key_of c.args.entity c.args.columns.now in
    let ms : List Marked = c.args.rows.now in
    let inv = c.loop-row.invariant b mark have in (
      all_begun key (rows_marked c.loop-row.begun.items) (first_rows key [] (rows_marked ms)) (rows_marked (drop c.loop-row.row-index ms)) (ap rows_marked (drop_all c.loop-row.row-index ms c.loop-row-test.false)) inv.0,
      inv.1.0,
    )
