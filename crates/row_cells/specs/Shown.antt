-- The values of columns, in a cell and in the text that is hashed.
use Rattle.table_spec.specs.text_spec.Json.{Json, null, boolean, string, array, object, items_of, members_of}
use Rattle.table_spec.specs.json_tree.Tree.{json_of}
use Rattle.table_spec.specs.fleet_rows.Cell.{CellValue, stamp, plain}
use Rattle.table_spec.specs.fleet_rows.Printed.{full_text}
use Rattle.table_spec.specs.history_spec.Report.{text_or_null, bool_or_null, number_or_null, stamp_or_null}
use Rattle.table_spec.specs.Cells.{moment_or_null, tags_value}
use Rattle.row_cells.specs.declared.shown.Shown.{Shown}
use Rattle.row_cells.specs.declared.shown.Shown.TheVariants.{Null, Text, OptionalText, Word, Flag, OptionalFlag, OptionalNumber, Stamp, OptionalStamp, Value, List as Items, Object, Tags}

-- the JSON value that is hashed; a moment is its stamp with nine fraction digits
abbrev pub shown_json : Shown → Json
shown_json Null = null
shown_json (Text s) = string s.now
shown_json (OptionalText o) = text_or_null o.now
shown_json (Word s) = string s.now
shown_json (Flag b) = boolean b
shown_json (OptionalFlag o) = bool_or_null o
shown_json (OptionalNumber o) = number_or_null o
shown_json (Stamp m) = string (full_text m)
shown_json (OptionalStamp o) = stamp_or_null o
shown_json (Value j) = json_of j.now
shown_json (Items js) = array (items_of js.now)
shown_json (Object ms) = object (members_of ms.now)
shown_json (Tags ts) = tags_value ts.now

abbrev pub shown_cell : Shown → CellValue
shown_cell (Stamp m) = stamp m
shown_cell (OptionalStamp o) = moment_or_null o
shown_cell s = plain (shown_json s)
