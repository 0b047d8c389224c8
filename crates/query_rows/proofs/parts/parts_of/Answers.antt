use Rattle.std.proofs.Common.{◌∙◌, ◌+◌, ◌==◌, ◌++◌, ℕ, List, sym, ap, drop}
use Rattle.std.specs.Prelude.{filter}
use Rattle.std.proofs.lemmas.List.{drop_all}
use Rattle.query_plan.specs.table_spec.Rows.{Cells}
use Rattle.query_rows.specs.Marked.{part_at, row_marked, rows_marked}
use Rattle.query_rows.specs.declared.marks.Marked.{Marked}
use Rattle.query_rows.proofs.MarkLaws.{left_behind, marks_at}
use Rattle.query_rows.proofs.PartLaws.{parted_on, parted_all}
use Rattle.query_rows.proofs.parts.parts_of.Goals as goal

pub loop-row-preserved : goal.loop-row-preserved
loop-row-preserved c = λ b have.
    let ms : List Marked = c.args.rows.now in
    let i : ℕ = c.loop-row.row-index in
    let m : Marked = c.row-item.result in
    let inv = c.loop-row.invariant b have in
    let here = marks_at b ms i m c.loop-row-test.true c.row-item.is inv.1 in
    let rest : List Cells = rows_marked (drop (i + 1) ms) in
    let old : ℕ → List Cells = part_at c.loop-row.parts.items in
    let new : ℕ → List Cells = part_at c.put.new.parts.items in (
      λ q. parted_on b (row_marked m) m.mark here.0 q (old q) (new q) rest (filter (λ x. b x == q) (rows_marked ms)) (c.in_ok-put.ensures q)
          (ap (λ l. old q ++ filter (λ x. b x == q) l) (sym (left_behind ms i m c.loop-row-test.true c.row-item.is)) ∙ inv.0 q),
      here.1,
    )

pub returns : goal.returns
returns c = λ b have. parted_all b c.loop-row.parts.items (rows_marked c.args.rows.now) (rows_marked (drop c.loop-row.row-index c.args.rows.now))
    (ap rows_marked (drop_all c.loop-row.row-index c.args.rows.now c.loop-row-test.false)) (c.loop-row.invariant b have).0
