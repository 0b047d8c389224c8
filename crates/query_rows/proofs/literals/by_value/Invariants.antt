use Rattle.std.proofs.Common.{◌≡◌, ℕ, true}
use Rattle.fleet_tables.specs.fleet_rows.Cell.{CellValue}
use Rattle.query_plan.specs.means_spec.Cells.{equals}
use Rattle.query_plan.specs.query_spec.declared.parts.Literal.{Literal}
use Rattle.query_rows.specs.Indexed.{holds_place}
use Rattle.query_rows.specs.Marked.{cell_text}
use Rattle.query_rows.specs.declared.index.Index.{Index}
use Rattle.query_rows.proofs.IndexLaws.{HoldsFirst}
use Rattle.query_rows.proofs.literals.by_value.Given as goal

abbrev pub invariant-loop-i : goal.invariant-loop-i
invariant-loop-i l =
    HoldsFirst (λ (x : Index) (j : ℕ) (a : Literal). (cell : CellValue) → equals cell a.value ≡ true → holds_place x (cell_text cell) j) l.literals l.index l.i
