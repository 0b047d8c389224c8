-- The values behind references.
use Rattle.std.specs.Prelude.{List, map}
use Rattle.std.specs.Borrow.{Bor}
use Rattle.query_plan.specs.query_spec.declared.parts.Selected.{Selected}
use Rattle.query_plan.specs.table_spec.Rows.{Cells}

abbrev pub selected_of : List (Bor Selected) → List Selected
selected_of = map (λ (s : Bor Selected). s.now)

abbrev pub row_of : Bor Cells → Cells
row_of r = r.now

abbrev pub rows_of : List (Bor Cells) → List Cells
rows_of = map row_of
