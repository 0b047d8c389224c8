-- Steps, with an index of the literals of their arrays.
use Rattle.std.specs.Prelude.{◌≡◌, ℕ, List, true, Option, Some, IfSome, slice_get}
use Rattle.fleet_tables.specs.fleet_rows.Cell.{CellValue}
use Rattle.query_plan.specs.Plan.{Step, lists}
use Rattle.query_plan.specs.means_spec.Cells.{equals}
use Rattle.query_plan.specs.query_spec.declared.parts.Literal.{Literal}
use Rattle.query_rows.specs.Indexed.{holds_place}
use Rattle.query_rows.specs.Marked.{cell_text}
use Rattle.query_rows.specs.declared.index.Index.{Index}

-- each literal is stored under the text of each cell that equals it
abbrev pub AreLiteralsOf : List Literal → Index → Type 0
AreLiteralsOf literals x = (j : ℕ) (l : Literal) → slice_get literals j ≡ Some l → (cell : CellValue) → equals cell l.value ≡ true → holds_place x (cell_text cell) j

-- the index, if there is one, is that of the step's literals
abbrev pub IsReady : Option Index → Step → Type 0
IsReady x (lists fs ls) = IfSome x (AreLiteralsOf ls)
IsReady x _ = Unit {0}
