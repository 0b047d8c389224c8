-- How many of the rows that a level chooses suffice for its answer.
use Rattle.std.specs.Prelude.{◌≡◌, ◌≤◌, ℕ, List, Bool, false, not, Option, Some, None, nat_lt, take}
use Rattle.fleet_tables.specs.fleet_rows.declared.row.Entity.{Entity}
use Rattle.query_plan.specs.Plan.{Shape, shaped, shaped_sum}
use Rattle.query_plan.specs.means_spec.Paging.{paged}
use Rattle.query_plan.specs.query_spec.declared.parts.Paging.{Paging}
use Rattle.query_plan.specs.table_spec.Rows.{Cells}

-- the first of the rows, as many as suffice; all, if no number suffices
abbrev pub first_of : Option ℕ → List Cells → List Cells
first_of None rows = rows
first_of (Some n) rows = take n rows

-- so many rows suffice
abbrev pub suffices : Option ℕ → ℕ → Bool
suffices None k = false
suffices (Some n) k = not (nat_lt k n)

-- no more rows than suffice
abbrev pub IsAtMost : Option ℕ → ℕ → Type 0
IsAtMost None k = Unit {0}
IsAtMost (Some n) k = k ≤ n

-- the page of these rows is that of the first of them
abbrev pub IsPageEnough : List (List ℕ) → Paging → Option ℕ → List Cells → Type 0
IsPageEnough names p enough rows = paged names p (first_of enough rows) ≡ paged names p rows

-- the answer from these rows is the answer from the first of them
pub record IsEnough (e : Option Entity) (s : Shape) (enough : Option ℕ) (rows : List Cells) : Type 0 where
  pub rows_are : shaped e s (first_of enough rows) ≡ shaped e s rows
  pub sum_is : shaped_sum e s (first_of enough rows) ≡ shaped_sum e s rows
