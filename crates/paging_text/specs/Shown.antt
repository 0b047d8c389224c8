-- The rows of the code as the definitions see them, and their text while it is written.
use Rattle.std.specs.Prelude.{ℕ, ℤ, ◌+ℤ◌, int_lt, List, [], ◌∷◌, ◌++◌, Bool, true, false, not, ◌&&◌, if◌then◌else◌, Option, Some, None, codes}
use Rattle.std.specs.Borrow.{Bor}
use Rattle.std.specs.List.{AllByRecursion}
use Rattle.std.proofs.Common.{inl, inr}
use Rattle.means_spec.specs.text_spec.Json.{null}
use Rattle.means_spec.specs.text_spec.Compact.{comma_if, quoted, compact}
use Rattle.means_spec.specs.text_spec.Stamp.{clock_text}
use Rattle.means_spec.specs.stamp_time.Range.{first_stamp, last_stamp, days, IsPrintable}
use Rattle.means_spec.specs.fleet_rows.Cell.{CellValue, plain, cell_of}
use Rattle.means_spec.specs.fleet_rows.Printed.{clock_at}
use Rattle.means_spec.specs.fleet_rows.declared.row.Cell.{Cell}
use Rattle.means_spec.specs.OutRows as spec
use Rattle.paging_text.specs.declared.rows.OutRows.{OutRows}
use Rattle.means_spec.specs.stamp_time.Limits.{most_days}

abbrev pub rows_of : OutRows → spec.OutRows
rows_of r = record { names = r.names; rows = r.rows }

-- the borrowed cell, or null if there is none
abbrev pub cell_or_null : Option (Bor Cell) → CellValue
cell_or_null None = plain null
cell_or_null (Some b) = cell_of b.now

-- the moment in the cell can be printed
abbrev pub IsPrintableCell : CellValue → Type 0
IsPrintableCell (inl m) = IsPrintable m
IsPrintableCell (inr j) = Unit {0}

abbrev pub IsPrintableRow : List CellValue → Type 0
IsPrintableRow = AllByRecursion IsPrintableCell

-- YYYY-MM-DDTHH:MM:SS.fffZ
unfoldable pub short_text : ℤ → List ℕ
short_text m = clock_text 3 (clock_at m)

-- ---- the text of rows, piece by piece

-- whether the moment can be printed, as a test
abbrev pub can_be_printed : ℤ → Bool
can_be_printed m = not (int_lt m first_stamp) && not (int_lt (last_stamp +ℤ days most_days) m)

-- a moment that can't be printed is null
abbrev pub moment_text : ℤ → List ℕ
moment_text m = if can_be_printed m then quoted (short_text m) else codes "null"

abbrev pub cell_text : CellValue → List ℕ
cell_text (inl m) = moment_text m
cell_text (inr j) = compact j

-- the members and the closing brace; `later` if a member precedes them
abbrev pub members_text : Bool → List (List ℕ) → List CellValue → List ℕ
members_text later (n ∷ ns) (x ∷ xs) = comma_if later ++ quoted n ++ 58 ∷ (cell_text x ++ members_text true ns xs)
members_text later _ _ = 125 ∷ []

-- what stands before the cell of a column; `later` if a member precedes it
abbrev pub head_text : Bool → List ℕ → List ℕ
head_text later name = comma_if later ++ quoted name ++ 58 ∷ []

abbrev pub heads_text : Bool → List (List ℕ) → List (List ℕ)
heads_text later [] = []
heads_text later (n ∷ ns) = head_text later n ∷ heads_text true ns

-- the members with these heads, and the closing brace
abbrev pub headed_text : List (List ℕ) → List CellValue → List ℕ
headed_text (h ∷ hs) (x ∷ xs) = h ++ cell_text x ++ headed_text hs xs
headed_text _ _ = 125 ∷ []

abbrev pub row_text : List (List ℕ) → List CellValue → List ℕ
row_text names cells = 123 ∷ members_text false names cells

-- the rows and the closing bracket; `later` if a row precedes them
abbrev pub rows_behind : Bool → List (List ℕ) → List (List CellValue) → List ℕ
rows_behind later names [] = 93 ∷ []
rows_behind later names (r ∷ rs) = comma_if later ++ row_text names r ++ rows_behind true names rs

abbrev pub written_text : spec.OutRows → List ℕ
written_text r = 91 ∷ rows_behind false r.names r.rows
