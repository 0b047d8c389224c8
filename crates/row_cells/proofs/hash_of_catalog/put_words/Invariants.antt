use Rattle.std.proofs.Common.{◌≡◌, ◌++◌, ◌∷◌, drop, map, false}
use Rattle.table_spec.specs.text_spec.Json.{string, items_of}
use Rattle.table_spec.specs.text_spec.Compact.{compact_items, arranged_items}
use Rattle.row_cells.proofs.hash_of_catalog.put_words.Given as goal

abbrev pub invariant-loop-word : goal.invariant-loop-word
invariant-loop-word l =
    l.out.items ++ compact_items l.later (arranged_items (items_of (map string (map (λ w. w.now) (drop l.word-index l.words)))))
    ≡ l.fn.out.items ++ 91 ∷ compact_items false (arranged_items (items_of (map string (map (λ w. w.now) l.words))))
