use Rattle.std.proofs.Common.{ℕ}
use Rattle.query_plan.specs.table_spec.Rows.{Cells}
use Rattle.query_rows.specs.Indexed.{holds_place}
use Rattle.query_rows.specs.Marked.{key_text}
use Rattle.query_rows.specs.declared.index.Index.{Index}
use Rattle.query_rows.proofs.IndexLaws.{HoldsFirst}
use Rattle.query_rows.proofs.known.by_cells.Given as goal

abbrev pub invariant-loop-i : goal.invariant-loop-i
invariant-loop-i l = HoldsFirst (λ (x : Index) (j : ℕ) (row : Cells). holds_place x (key_text row) j) l.rows l.index l.i
