-- The values that aren't null, and the best of them so far.
use Rattle.std.specs.Prelude.{◌≡◌, List, true, false, Option, Some, None, option_map}
use Rattle.query_plan.specs.means_spec.Cells.{is_null_cell}
use Rattle.query_plan.specs.means_spec.Groups.{least, greatest, least_of, greatest_of}
use Rattle.fleet_tables.specs.fleet_rows.Cell.{CellValue, plain}
use Rattle.same_text.specs.text_spec.Json.{null}
use Rattle.row_views.specs.Seen.{seen_value}
use Rattle.row_views.specs.declared.seen.Seen.{Seen}

-- None if the value is null
abbrev pub IsTold : Option Seen → CellValue → Type 0
IsTold None x = is_null_cell x ≡ true
IsTold (Some told) x = (is_null_cell x ≡ false) × (x ≡ seen_value told)

abbrev pub cells_told : Option Seen → Option CellValue
cells_told = option_map seen_value

abbrev pub told_or_null : Option Seen → CellValue
told_or_null None = plain null
told_or_null (Some told) = seen_value told

-- the least of these cells and the best one before them, if there is one
abbrev pub least_behind : Option CellValue → List CellValue → CellValue
least_behind None xs = least_of xs
least_behind (Some x) xs = least x xs

abbrev pub greatest_behind : Option CellValue → List CellValue → CellValue
greatest_behind None xs = greatest_of xs
greatest_behind (Some x) xs = greatest x xs
