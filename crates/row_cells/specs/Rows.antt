-- The rows that this crate makes.
use Rattle.std.specs.Prelude.{◌≡◌, ℕ, List}
use Rattle.table_spec.specs.text_spec.Json.{Json}
use Rattle.table_spec.specs.fleet_rows.Cell.{CellValue}
use Rattle.table_spec.specs.fleet_rows.declared.change.FactsChange.{FactsChange}
use Rattle.table_spec.specs.fleet_rows.declared.row.Entity.{Entity}
use Rattle.table_spec.specs.fleet_rows.declared.row.Row.{Row}
use Rattle.table_spec.specs.Cells.{fact_cells}

-- a row of the entity with these cells
abbrev pub IsRow : Row → Entity → List CellValue → Type 0
IsRow row entity cells = (row.entity ≡ entity) × (row.cells ≡ cells)

-- the cells of one fact of the change
abbrev pub member_cells : FactsChange → List ℕ × Json → List CellValue
member_cells c m = fact_cells (record { certname = c.certname; environment = c.environment; name = m.0; value = m.1 })
