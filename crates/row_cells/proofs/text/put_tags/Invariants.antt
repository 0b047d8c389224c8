use Rattle.std.proofs.Common.{◌≡◌, ◌++◌, ◌∷◌, drop, map, false}
use Rattle.table_spec.specs.text_spec.Json.{string, items_of}
use Rattle.table_spec.specs.text_spec.Compact.{compact_items, arranged_items}
use Rattle.row_cells.proofs.text.put_tags.Given as goal

abbrev pub invariant-loop-tag : goal.invariant-loop-tag
invariant-loop-tag l =
    l.out.items ++ compact_items l.later (arranged_items (items_of (map string (drop l.tag-index l.tags))))
    ≡ l.fn.out.items ++ 91 ∷ compact_items false (arranged_items (items_of (map string l.tags)))
