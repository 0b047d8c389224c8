-- Rows that are made at places, in the order of the places, are the rows of what the places are an order of.
use Rattle.std.proofs.Common.{◌≡◌, ◌∙◌, ℕ, List, [], ◌∷◌, map, refl, ap, Some}
use Rattle.std.specs.Prelude.{slice_get, option_map}
use Rattle.table_spec.specs.text_spec.Json.{Json, members_list}
use Rattle.table_spec.specs.fleet_rows.Cell.{CellValue}
use Rattle.table_spec.specs.fleet_rows.declared.change.FactsChange.{FactsChange}
use Rattle.table_spec.specs.history_spec.Facts.{by_name, rows_of_facts}
use Rattle.table_spec.specs.Cells.{fact_cells}
use Rattle.row_cells.specs.Rows.{member_cells}

pub rows_at_places : {A B : Type 0} (row : A → B) (list xs : List A) (places : List ℕ) (rows : List B)
    → map (slice_get list) places ≡ map (λ x. Some x) xs
    → map (λ r. Some r) rows ≡ map (λ place. option_map row (slice_get list place)) places
    → rows ≡ map row xs
rows_at_places row list [] [] [] h k = refl
rows_at_places row list [] [] (r ∷ rs) h k = cc
rows_at_places row list (x ∷ xs) [] rs h k = cc
rows_at_places row list [] (p ∷ ps) rs h k = cc
rows_at_places row list (x ∷ xs) (p ∷ ps) [] h k = cc
rows_at_places row list (x ∷ xs) (p ∷ ps) (r ∷ rs) h k =
    let here : slice_get list p ≡ Some x = cc in
    let one : Some r ≡ option_map row (slice_get list p) = cc in
    let first : Some r ≡ Some (row x) = one ∙ ap (option_map row) here in
    let same : r ≡ row x = cc in
    let more_places : map (slice_get list) ps ≡ map (λ y. Some y) xs = cc in
    let more_rows : map (λ s. Some s) rs ≡ map (λ place. option_map row (slice_get list place)) ps = cc in
    let rest : rs ≡ map row xs = rows_at_places row list xs ps rs more_places more_rows in
    λ i. same i ∷ rest i

shown_rows : (c : FactsChange) (ms : List (List ℕ × Json)) → map (member_cells c) ms ≡ map fact_cells (map (λ m. record { certname = c.certname; environment = c.environment; name = m.0; value = m.1 }) ms)
shown_rows c [] = refl
shown_rows c (m ∷ ms) = ap (λ rows. member_cells c m ∷ rows) (shown_rows c ms)

-- from what `fact_order` says of the places and `fact_row` of the rows
pub fact_rows_in_order : (c : FactsChange) (places : List ℕ) (rows : List (List CellValue))
    → map (slice_get c.values) places ≡ map (λ m. Some m) (members_list (by_name c.values))
    → map (λ row. Some row) rows ≡ map (λ place. option_map (member_cells c) (slice_get c.values place)) places
    → rows ≡ map fact_cells (rows_of_facts c)
fact_rows_in_order c places rows h k =
    rows_at_places (member_cells c) c.values (members_list (by_name c.values)) places rows h k ∙ shown_rows c (members_list (by_name c.values))
