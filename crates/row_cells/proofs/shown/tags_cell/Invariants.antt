use Rattle.std.proofs.Common.{◌≡◌, map, take}
use Rattle.table_spec.specs.text_spec.Json.{string}
use Rattle.row_cells.proofs.shown.tags_cell.Given as goal

abbrev pub invariant-loop-tag : goal.invariant-loop-tag
invariant-loop-tag l = l.items ≡ map string (take l.tag-index l.tags)
