-- Cells by the names of their columns, and comparisons of cells with values and texts.
use Rattle.std.specs.Prelude.{ℕ, ℤ, List, [], ◌∷◌, Bool, false, Option, if◌then◌else◌}
use Rattle.std.proofs.Common.{inl, inr}
use Rattle.std.specs.Option.{option_map_or}
use Rattle.std.specs.Ordering.{int_eq}
use Rattle.std.specs.Str.{bytes_eq}
use Rattle.history_spec.specs.text_spec.Json.{Json, null, string}
use Rattle.history_spec.specs.text_spec.Order.{same}
use Rattle.history_spec.specs.text_spec.StampReader.{stamp_of}
use Rattle.history_spec.specs.fleet_rows.Cell.{CellValue, plain}
use Rattle.table_spec.specs.Rows.{Cells}

-- the cell in the column of this name, or null if there is none
abbrev pub cell_under : List (List ℕ) → List ℕ → Cells → CellValue
cell_under [] s cells = plain null
cell_under (n ∷ ns) s [] = plain null
cell_under (n ∷ ns) s (x ∷ xs) = if bytes_eq s n then x else cell_under ns s xs

-- the cell is this value, or this moment if one is given
abbrev pub cell_equals : Json → Option ℤ → CellValue → Bool
cell_equals value moment (inl m) = option_map_or (int_eq m) moment false
cell_equals value moment (inr j) = same j value

-- the cell is this text, or the moment of which the text is a stamp
abbrev pub text_equals : List ℕ → CellValue → Bool
text_equals s = cell_equals (string s) (stamp_of s)
