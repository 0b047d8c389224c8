use Rattle.std.proofs.Common.{ℕ}
use Rattle.query_plan.specs.means_spec.Cells.{node_in}
use Rattle.query_plan.specs.table_spec.Rows.{Cells}
use Rattle.query_rows.specs.Indexed.{holds_place, IsRising}
use Rattle.query_rows.specs.declared.index.Index.{Index}
use Rattle.query_rows.proofs.IndexLaws.{HoldsFirst}
use Rattle.query_rows.proofs.known.by_node.Given as goal

abbrev pub invariant-loop-i : goal.invariant-loop-i
invariant-loop-i l =
    record {
      there : HoldsFirst (λ (x : Index) (j : ℕ) (row : Cells). holds_place x (node_in l.entity row) j) l.rows l.index l.i;
      rising : IsRising l.index l.i;
    }
