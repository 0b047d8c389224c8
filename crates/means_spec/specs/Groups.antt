-- Groups of rows, and the functions over them.
use Rattle.std.specs.Prelude.{ℕ, zero, suc, ◌/◌, ◌%◌, ◌^◌, ◌==◌, ℤ, pos, ◌+ℤ◌, int_lt, unsigned_abs, List, [], ◌∷◌, ◌++◌, length, Bool, not, if◌then◌else◌, Option, Some, None, map, filter, decimal}
use Rattle.std.specs.declared.cmp.Ordering.{Ordering}
use Rattle.std.specs.Cmp.Lexicographic.{slice_cmp}
use Rattle.std.specs.List.{list_any}
use Rattle.std.specs.Ordering.{is_lt, is_gt}
use Rattle.std.proofs.Common.{inr}
use Rattle.table_spec.specs.text_spec.Json.{null, number}
use Rattle.table_spec.specs.text_spec.Number.{scaled}
use Rattle.table_spec.specs.text_spec.Stamp.{digits_text}
use Rattle.table_spec.specs.fleet_rows.Cell.{CellValue, plain, cell_cmp}
use Rattle.table_spec.specs.fleet_rows.declared.row.Entity.{Entity}
use Rattle.query_spec.specs.declared.parts.Function.{Function}
use Rattle.query_spec.specs.declared.parts.Function.TheVariants.{Count, Sum, Min, Max}
use Rattle.query_spec.specs.declared.parts.Name.{Name}
use Rattle.query_spec.specs.declared.parts.Selected.{Selected}
use Rattle.query_spec.specs.declared.parts.Selected.TheVariants as selected
use Rattle.table_spec.specs.Rows.{Cells}
use Rattle.table_spec.specs.Sorted.{sorted_by}
use Rattle.means_spec.specs.Cells.{cell_in, is_null_cell, same_cells}
use Rattle.means_spec.specs.Shown.{distinct}

-- ---- groups

-- the first row of a group, whose cells are shown, and all rows of the group
pub record Group : Type 0 where
  pub first : Cells
  pub rows : List Cells

-- the cells by which rows are grouped
abbrev pub key_of : Option Entity → List Name → Cells → Cells
key_of e g row = map (λ (n : Name). cell_in e n.text row) g

-- the total order of lists of cells, by their first difference
abbrev pub cells_cmp : Cells → Cells → Ordering
cells_cmp = slice_cmp cell_cmp

-- rows with the same key are in one group
module _ (key : Cells → Cells) where
  abbrev pub in_one_group : Cells → Cells → Bool
  in_one_group a b = same_cells (key a) (key b)

  -- the rows that begin a group: those in no group that began earlier
  abbrev pub first_rows : List Cells → List Cells → List Cells
  first_rows begun [] = []
  first_rows begun (r ∷ rs) =
      if list_any (in_one_group r) begun then first_rows begun rs else r ∷ first_rows (begun ++ r ∷ []) rs

  abbrev pub group_of : List Cells → Cells → Group
  group_of rows first = record { first = first; rows = filter (in_one_group first) rows }

  -- the groups, sorted by the total order of their keys
  abbrev pub grouped : List Cells → List Group
  grouped rows = map (group_of rows) (sorted_by (λ a b. cells_cmp (key a) (key b)) (first_rows [] rows))

-- without columns to group by, one group has all rows
abbrev pub groups : Option Entity → List Name → List Cells → List Group
groups e [] rows = record { first = []; rows = rows } ∷ []
groups e (n ∷ ns) rows = grouped (key_of e (n ∷ ns)) rows

-- ---- functions

abbrev pub count_cell : ℕ → CellValue
count_cell n = plain (number (decimal n))

-- the cells that aren't null
abbrev pub told : List CellValue → List CellValue
told = filter (λ x. not (is_null_cell x))

-- the value of a number, in units of 10^-18
abbrev pub scaled_in : CellValue → Option ℤ
scaled_in (inr (number s)) = scaled s
scaled_in _ = None

abbrev pub scaled_numbers : List CellValue → List ℤ
scaled_numbers [] = []
scaled_numbers (x ∷ xs) = elim (scaled_in x) [ Some m ↦ m ∷ scaled_numbers xs | None ↦ scaled_numbers xs ]

abbrev pub added : List ℤ → ℤ
added [] = pos 0
added (m ∷ ms) = m +ℤ added ms

-- the last `width` decimal digits of n, without trailing zeros
abbrev pub trimmed : ℕ → ℕ → List ℕ
trimmed zero n = []
trimmed (suc width) n = if n % 10 == 0 then trimmed width (n / 10) else digits_text (suc width) n

-- the decimal fraction of n / 10^18
abbrev pub decimals : ℕ → List ℕ
decimals n = if n == 0 then [] else 46 ∷ trimmed 18 n

-- m / 10^18 in decimal
abbrev pub scaled_text : ℤ → List ℕ
scaled_text m =
    (if int_lt m (pos 0) then 45 ∷ [] else []) ++ decimal (unsigned_abs m / 10 ^ 18) ++ decimals (unsigned_abs m % 10 ^ 18)

-- the sum of the scaled numbers; null if there are none
abbrev pub sum_of : List ℤ → CellValue
sum_of [] = plain null
sum_of (m ∷ ms) = plain (number (scaled_text (added (m ∷ ms))))

-- the least and the greatest cell in the total order; null if there is none
abbrev pub least : CellValue → List CellValue → CellValue
least x [] = x
least x (y ∷ ys) = if is_lt (cell_cmp y x) then least y ys else least x ys

abbrev pub greatest : CellValue → List CellValue → CellValue
greatest x [] = x
greatest x (y ∷ ys) = if is_gt (cell_cmp y x) then greatest y ys else greatest x ys

abbrev pub least_of : List CellValue → CellValue
least_of [] = plain null
least_of (x ∷ xs) = least x xs

abbrev pub greatest_of : List CellValue → CellValue
greatest_of [] = plain null
greatest_of (x ∷ xs) = greatest x xs

abbrev pub function_of : Function → List CellValue → CellValue
function_of Count xs = count_cell (length (told xs))
function_of Sum xs = sum_of (scaled_numbers xs)
function_of Min xs = least_of (told xs)
function_of Max xs = greatest_of (told xs)

-- ---- what is shown of a group

abbrev pub group_cell : Option Entity → Group → Selected → CellValue
group_cell e x (selected.Column n) = cell_in e n.text x.first
group_cell e x selected.Rows = count_cell (length x.rows)
group_cell e x (selected.Function f n) = function_of f (map (cell_in e n.text) x.rows)

abbrev pub group_rows : Option Entity → List Selected → List Name → List Cells → List Cells
group_rows e ss g rows = map (λ x. map (group_cell e x) (distinct ss)) (groups e g rows)
