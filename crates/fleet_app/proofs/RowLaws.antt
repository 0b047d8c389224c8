-- The text of a row in its parts, and the rows that are left.
use Rattle.std.proofs.Common.{◌≡◌, ◌∙◌, refl, sym, ap, ℕ, zero, suc, List, [], ◌∷◌, ◌++◌, append_assoc, map, drop, get_or, codes, Bool, true, false, not, if◌then◌else◌, Option, Some, None}
use Rattle.std.specs.Prelude.{slice_get}
use Rattle.busy_commands.specs.text_spec.Json.{Json, items_of}
use Rattle.busy_commands.specs.text_spec.Compact.{compact, compact_items, escaped, comma_if}
use Rattle.busy_commands.specs.fleet_rows.Cell.{CellValue, plain, cell_of, cells_of}
use Rattle.busy_commands.specs.fleet_rows.declared.row.Cell.{Cell}
use Rattle.busy_commands.specs.fleet_rows.declared.row.Entity.TheVariants.{Facts}
use Rattle.busy_commands.specs.fleet_rows.declared.settings.Ttls.{Ttls}
use Rattle.busy_commands.specs.history_spec.Trace.{Trace}
use Rattle.busy_commands.specs.history_spec.Life.{is_inactive}
use Rattle.busy_commands.specs.history_spec.Facts.{FactRow, fact_rows, active_fact_rows}
use Rattle.busy_commands.proofs.of_history_laws.FactRows.{active_rows_stand_in_order}
use Rattle.busy_commands.specs.table_spec.Cells.{text_cell, fact_cells}
use Rattle.busy_commands.specs.table_spec.Rows.{active_rows}
use Rattle.busy_commands.specs.table_spec.RowsText.{row_object, rows_text}
use Rattle.busy_commands.proofs.of_table_laws.FactTables.{active_facts_are_those_of_the_history}
use Rattle.fleet_app.specs.Rows.{fact_object, rows_behind, active}

-- ---- the text of a row

-- nine texts behind one another
nine : (x a b c d e f g h i : List ℕ) → ((((((((x ++ a) ++ b) ++ c) ++ d) ++ e) ++ f) ++ g) ++ h) ++ i ≡ x ++ (a ++ (b ++ (c ++ (d ++ (e ++ (f ++ (g ++ (h ++ i))))))))
nine x a b c d e f g h i =
    append_assoc (((((((x ++ a) ++ b) ++ c) ++ d) ++ e) ++ f) ++ g) h i
    ∙ append_assoc ((((((x ++ a) ++ b) ++ c) ++ d) ++ e) ++ f) g (h ++ i)
    ∙ append_assoc (((((x ++ a) ++ b) ++ c) ++ d) ++ e) f (g ++ (h ++ i))
    ∙ append_assoc ((((x ++ a) ++ b) ++ c) ++ d) e (f ++ (g ++ (h ++ i)))
    ∙ append_assoc (((x ++ a) ++ b) ++ c) d (e ++ (f ++ (g ++ (h ++ i))))
    ∙ append_assoc ((x ++ a) ++ b) c (d ++ (e ++ (f ++ (g ++ (h ++ i)))))
    ∙ append_assoc (x ++ a) b (c ++ (d ++ (e ++ (f ++ (g ++ (h ++ i))))))
    ∙ append_assoc x a (b ++ (c ++ (d ++ (e ++ (f ++ (g ++ (h ++ i)))))))

abbrev pub four : Json → Json → Json → Json → List CellValue
four c e n v = plain c ∷ plain e ∷ plain n ∷ plain v ∷ []

object_text : (c e n v : Json) → codes "{\"certname\":" ++ (compact c ++ (codes ",\"environment\":" ++ (compact e ++ (codes ",\"name\":" ++ (compact n ++ (codes ",\"value\":" ++ (compact v ++ 125 ∷ []))))))) ≡ compact (row_object Facts (four c e n v))
unfolding escaped
object_text c e n v = refl

-- the object of a row, part for part, behind what stands there
pub object_parts : (x : List ℕ) (c e n v : Json) → ((((((((x ++ codes "{\"certname\":") ++ compact c) ++ codes ",\"environment\":") ++ compact e) ++ codes ",\"name\":") ++ compact n) ++ codes ",\"value\":") ++ compact v) ++ 125 ∷ [] ≡ x ++ compact (row_object Facts (four c e n v))
object_parts x c e n v =
    nine x (codes "{\"certname\":") (compact c) (codes ",\"environment\":") (compact e) (codes ",\"name\":") (compact n) (codes ",\"value\":") (compact v) (125 ∷ [])
    ∙ ap (λ text. x ++ text) (object_text c e n v)

-- ---- cells

-- the cells of a row of facts, by their places
pub cells_are : (cells : List Cell) (r : FactRow) → cells_of cells ≡ fact_cells r → (a b c d : Cell) → a ≡ get_or cells 0 a → b ≡ get_or cells 1 b → c ≡ get_or cells 2 c → d ≡ get_or cells 3 d → cells_of cells ≡ cell_of a ∷ cell_of b ∷ cell_of c ∷ cell_of d ∷ []
cells_are [] r e a b c d ha hb hc hd = absurd (let apart : cells_of [] ≡ fact_cells r = e in cc)
cells_are (w ∷ []) r e a b c d ha hb hc hd = absurd (let apart : cells_of (w ∷ []) ≡ fact_cells r = e in cc)
cells_are (w ∷ x ∷ []) r e a b c d ha hb hc hd = absurd (let apart : cells_of (w ∷ x ∷ []) ≡ fact_cells r = e in cc)
cells_are (w ∷ x ∷ y ∷ []) r e a b c d ha hb hc hd = absurd (let apart : cells_of (w ∷ x ∷ y ∷ []) ≡ fact_cells r = e in cc)
cells_are (w ∷ x ∷ y ∷ z ∷ []) r e a b c d ha hb hc hd = λ i. cell_of (sym ha i) ∷ cell_of (sym hb i) ∷ cell_of (sym hc i) ∷ cell_of (sym hd i) ∷ []
cells_are (w ∷ x ∷ y ∷ z ∷ v ∷ cells) r e a b c d ha hb hc hd = absurd (let apart : cells_of (w ∷ x ∷ y ∷ z ∷ v ∷ cells) ≡ fact_cells r = e in cc)

-- the text of the first is the certname
pub certname_is : (cells : List Cell) (r : FactRow) (certname : List ℕ) (a : Cell) → cells_of cells ≡ fact_cells r → a ≡ get_or cells 0 a → cell_of a ≡ text_cell certname → r.certname ≡ certname
certname_is [] r certname a e h t = absurd (let apart : cells_of [] ≡ fact_cells r = e in cc)
certname_is (w ∷ cells) r certname a e h t =
    let row : cells_of (w ∷ cells) ≡ fact_cells r = e in
    let here : cell_of w ≡ text_cell certname = ap cell_of (sym h) ∙ t in
    cc

-- ---- the rows that are left

-- a row more
row-more : (out new : List ℕ) (later : Bool) (r : FactRow) (rows : List FactRow) → new ≡ out ++ comma_if later ++ compact (fact_object r) → new ++ rows_behind true rows ≡ out ++ rows_behind later (r ∷ rows)
row-more out new later r rows h =
    ap (λ t. t ++ rows_behind true rows) h
    ∙ append_assoc (out ++ comma_if later) (compact (fact_object r)) (rows_behind true rows)
    ∙ append_assoc out (comma_if later) (compact (fact_object r) ++ rows_behind true rows)
    ∙ ap (λ t. out ++ t) (sym (append_assoc (comma_if later) (compact (fact_object r)) (rows_behind true rows)))

module _ (ttls : Ttls) (history : Trace) (r : FactRow) (rest : List FactRow) where
  -- the row of an inactive node is left out, and that of an active one stands in front
  pub hidden : is_inactive ttls history r.certname ≡ true → active ttls history (r ∷ rest) ≡ active ttls history rest
  hidden h = ap (λ b. if not b then r ∷ active ttls history rest else active ttls history rest) h

  pub shown : is_inactive ttls history r.certname ≡ false → active ttls history (r ∷ rest) ≡ r ∷ active ttls history rest
  shown h = ap (λ b. if not b then r ∷ active ttls history rest else active ttls history rest) h

  pub row_put : (out new : List ℕ) (later : Bool) → is_inactive ttls history r.certname ≡ false → new ≡ (out ++ comma_if later) ++ compact (fact_object r) → new ++ rows_behind true (active ttls history rest) ≡ out ++ rows_behind later (active ttls history (r ∷ rest))
  row_put out new later h e =
      row-more out new later r (active ttls history rest) (e ∙ append_assoc out (comma_if later) (compact (fact_object r)) ∙ sym (append_assoc out (comma_if later) (compact (fact_object r))))
      ∙ ap (λ rows. out ++ rows_behind later rows) (sym (shown h))

-- ---- a row by its place

-- at a place of the rows stands a row of facts, with which what is left begins
pub record IsRowOfFacts (facts : List FactRow) (i : ℕ) (cells : List CellValue) : Type 0 where
  pub row : FactRow
  pub cells_are : cells ≡ fact_cells row
  pub left : drop i facts ≡ row ∷ drop (suc i) facts

pub row_at : (facts : List FactRow) (i : ℕ) (cells : List CellValue) → slice_get (map fact_cells facts) i ≡ Some cells → IsRowOfFacts facts i cells
row_at [] i cells h = absurd (let none : ◌≡◌ {A = Option (List CellValue)} None (Some cells) = h in cc)
row_at (r ∷ facts) zero cells h = record { row = r; cells_are = let same : ◌≡◌ {A = Option (List CellValue)} (Some (fact_cells r)) (Some cells) = h in cc; left = refl }
row_at (r ∷ facts) (suc i) cells h = let next = row_at facts i cells h in record { row = next.row; cells_are = next.cells_are; left = next.left }

-- ---- all rows

objects : (rows : List FactRow) → map (row_object Facts) (map fact_cells rows) ≡ map fact_object rows
objects [] = refl
objects (r ∷ rows) = ap (λ l. fact_object r ∷ l) (objects rows)

-- the rows of active nodes make the text of the definition
pub active_text : (ttls : Ttls) (history : Trace) → 91 ∷ rows_behind false (active ttls history (fact_rows ttls history)) ≡ rows_text Facts (active_rows Facts ttls history)
active_text ttls history =
    ap (λ rows. 91 ∷ rows_behind false rows) (sym (active_rows_stand_in_order ttls history))
    ∙ ap (λ js. 91 ∷ compact_items false (items_of js)) (sym (objects (active_fact_rows ttls history)) ∙ ap (map (row_object Facts)) (sym (active_facts_are_those_of_the_history ttls history)))
