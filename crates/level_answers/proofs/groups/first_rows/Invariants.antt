use Rattle.std.proofs.Common.{◌≡◌, ◌++◌, ℕ, [], drop}
use Rattle.query_plan.specs.means_spec.Groups.{key_of, first_rows}
use Rattle.query_plan.specs.table_spec.Rows.{Cells}
use Rattle.level_answers.specs.Begun.{AreBegun}
use Rattle.query_rows.specs.Marked.{rows_marked, IsMark, HaveMarks}
use Rattle.level_answers.proofs.groups.first_rows.Given as goal

abbrev pub invariant-loop-row : goal.invariant-loop-row
invariant-loop-row l =
    let key = key_of l.entity l.columns in
    (b : Cells → ℕ) → IsMark key b → HaveMarks b l.rows
    → (rows_marked l.begun.items ++ first_rows key (rows_marked l.begun.items) (rows_marked (drop l.row-index l.rows)) ≡ first_rows key [] (rows_marked l.rows)) × AreBegun b l.begun.items l.parts.items × HaveMarks b (drop l.row-index l.rows)
