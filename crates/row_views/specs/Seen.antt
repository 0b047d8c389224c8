-- The value that a row shows in a column, as a cell.
use Rattle.same_text.specs.text_spec.Json.{null, boolean, string}
use Rattle.same_text.specs.json_tree.Tree.{json_of}
use Rattle.fleet_tables.specs.fleet_rows.Cell.{CellValue, plain, stamp, cell_of}
use Rattle.row_views.specs.declared.seen.Seen.{Seen}
use Rattle.row_views.specs.declared.seen.Seen.TheVariants.{Cell, Value, Text, Flag, Stamp, Null}

abbrev pub seen_value : Seen → CellValue
seen_value (Cell x) = cell_of x.now
seen_value (Value j) = plain (json_of j.now)
seen_value (Text s) = plain (string s.now)
seen_value (Flag b) = plain (boolean b)
seen_value (Stamp m) = stamp m
seen_value Null = plain null
