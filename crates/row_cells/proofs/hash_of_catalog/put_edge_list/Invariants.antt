use Rattle.std.proofs.Common.{◌≡◌, ◌++◌, ◌∷◌, drop, map, false}
use Rattle.table_spec.specs.text_spec.Json.{items_of}
use Rattle.table_spec.specs.text_spec.Compact.{compact_items, arranged_items}
use Rattle.table_spec.specs.Cells.{edge_texts}
use Rattle.row_cells.proofs.hash_of_catalog.put_edge_list.Given as goal

abbrev pub invariant-loop-edge : goal.invariant-loop-edge
invariant-loop-edge l =
    l.out.items ++ compact_items l.later (arranged_items (items_of (map edge_texts (map (λ e. e.now) (drop l.edge-index l.edges)))))
    ≡ l.fn.out.items ++ 91 ∷ compact_items false (arranged_items (items_of (map edge_texts (map (λ e. e.now) l.edges))))
