-- The text that is written is that of the rows' objects.
use Rattle.std.proofs.Common.{◌≡◌, ◌∙◌, ℕ, List, [], ◌∷◌, ◌++◌, Bool, true, false, map, refl, ap, append_assoc}
use Rattle.std.specs.Prelude.{zip}
use Rattle.std.specs.List.{AllByRecursion}
use Rattle.means_spec.specs.text_spec.Json.{members_of, items_of}
use Rattle.means_spec.specs.text_spec.Compact.{comma_if, quoted, compact_members, compact_items}
use Rattle.means_spec.specs.fleet_rows.Cell.{CellValue}
use Rattle.means_spec.specs.table_spec.RowsText.{cell_json}
use Rattle.means_spec.specs.OutRows.{OutRows, line_object, lines_text}
use Rattle.paging_text.specs.Shown.{IsPrintableRow, cell_text, heads_text, headed_text, members_text, rows_behind, written_text}
use Rattle.paging_text.proofs.StampTexts.{cell_text_is}

members_text_is : (later : Bool) (names : List (List ℕ)) (cells : List CellValue) → IsPrintableRow cells → members_text later names cells ≡ compact_members later (members_of (zip names (map cell_json cells)))
members_text_is later [] cells h = refl
members_text_is later (n ∷ ns) [] h = refl
members_text_is later (n ∷ ns) (x ∷ xs) h = λ i. comma_if later ++ quoted n ++ 58 ∷ (cell_text_is x h.0 i ++ members_text_is true ns xs h.1 i)

behind_is : (later : Bool) (names : List (List ℕ)) (rows : List (List CellValue)) → AllByRecursion IsPrintableRow rows → rows_behind later names rows ≡ compact_items later (items_of (map (line_object names) rows))
behind_is later names [] h = refl
behind_is later names (r ∷ rs) h = λ i. comma_if later ++ 123 ∷ members_text_is false names r h.0 i ++ behind_is true names rs h.1 i

-- where each moment can be printed
pub rows_text_is : (r : OutRows) → AllByRecursion IsPrintableRow r.rows → written_text r ≡ lines_text r
rows_text_is r h = ap (λ t. 91 ∷ t) (behind_is false r.names r.rows h)

-- the members with the heads of these names are the members with these names
pub headed_is : (later : Bool) (names : List (List ℕ)) (cells : List CellValue) → headed_text (heads_text later names) cells ≡ members_text later names cells
headed_is later [] cells = refl
headed_is later (n ∷ ns) [] = refl
headed_is later (n ∷ ns) (x ∷ xs) =
    let front = comma_if later ++ quoted n in
    append_assoc (front ++ 58 ∷ []) (cell_text x) (headed_text (heads_text true ns) xs)
    ∙ append_assoc front (58 ∷ []) (cell_text x ++ headed_text (heads_text true ns) xs)
    ∙ ap (λ rest. front ++ 58 ∷ (cell_text x ++ rest)) (headed_is true ns xs)
