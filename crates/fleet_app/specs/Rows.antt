-- The text of rows while it is written.
use Rattle.std.specs.Prelude.{◌≡◌, ℕ, List, ◌∷◌, Bool, not, map, filter, ◌++◌}
use Rattle.busy_commands.specs.text_spec.Json.{Json, items_of}
use Rattle.busy_commands.specs.text_spec.Compact.{compact_items}
use Rattle.busy_commands.specs.fleet_rows.Cell.{CellValue, plain}
use Rattle.busy_commands.specs.fleet_rows.declared.row.Entity.TheVariants.{Facts}
use Rattle.busy_commands.specs.fleet_rows.declared.settings.Ttls.{Ttls}
use Rattle.busy_commands.specs.history_spec.Trace.{Trace}
use Rattle.busy_commands.specs.history_spec.Life.{is_inactive}
use Rattle.busy_commands.specs.history_spec.Facts.{FactRow}
use Rattle.busy_commands.specs.table_spec.Cells.{text_cell, fact_cells}
use Rattle.busy_commands.specs.table_spec.RowsText.{row_object}
use Rattle.busy_commands.specs.table_machine.Table.{Table}
use Rattle.busy_commands.specs.fleet_tables.Stands.{Stands}

abbrev pub fact_object : FactRow → Json
fact_object r = row_object Facts (fact_cells r)

-- the remaining rows and the closing bracket, after earlier rows or none
abbrev pub rows_behind : Bool → List FactRow → List ℕ
rows_behind later rows = compact_items later (items_of (map fact_object rows))

-- the rows of active nodes
abbrev pub active : Ttls → Trace → List FactRow → List FactRow
active ttls history rows = filter (λ (row : FactRow). not (is_inactive ttls history row.certname)) rows

-- ---- cells

abbrev pub IsFact : List CellValue → Type 0
IsFact cells = (r : FactRow) × (cells ≡ fact_cells r)

abbrev pub IsPlain : CellValue → Type 0
IsPlain cell = (j : Json) × (cell ≡ plain j)

abbrev pub IsText : CellValue → Type 0
IsText cell = (s : List ℕ) × (cell ≡ text_cell s)

-- the row was written or left out, so what follows continues after it
abbrev pub PutsRow : Table → List CellValue → Bool → Bool → List ℕ → List ℕ → Type 0
PutsRow table cells later after old new =
    (history : Trace) (r : FactRow) (rest : List FactRow) → Stands table history → cells ≡ fact_cells r
    → new ++ rows_behind after (active table.ttls history rest) ≡ old ++ rows_behind later (active table.ttls history (r ∷ rest))
