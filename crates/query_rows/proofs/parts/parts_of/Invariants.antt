use Rattle.std.proofs.Common.{◌≡◌, ◌==◌, ◌++◌, ℕ, drop}
use Rattle.std.specs.Prelude.{filter}
use Rattle.query_plan.specs.table_spec.Rows.{Cells}
use Rattle.query_rows.specs.Marked.{part_at, rows_marked, HaveMarks}
use Rattle.query_rows.proofs.parts.parts_of.Given as goal

abbrev pub invariant-loop-row : goal.invariant-loop-row
invariant-loop-row l =
    (b : Cells → ℕ) → HaveMarks b l.rows
    → ((q : ℕ) → part_at l.parts.items q ++ filter (λ x. b x == q) (rows_marked (drop l.row-index l.rows)) ≡ filter (λ x. b x == q) (rows_marked l.rows)) × HaveMarks b (drop l.row-index l.rows)
