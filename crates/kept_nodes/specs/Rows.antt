-- Rows by their index.
use Rattle.std.specs.Prelude.{◌≡◌, ℕ, List, Some, slice_get}
use Rattle.checkpoint_spec.specs.fleet_rows.declared.row.Entity.{Entity}
use Rattle.checkpoint_spec.specs.fleet_rows.declared.row.Row.{Row}
use Rattle.checkpoint_spec.specs.table_spec.Rows.{Cells}

-- a row of the entity with the cells at index i of the list
abbrev pub IsRowAt : Row → Entity → List Cells → ℕ → Type 0
IsRowAt row entity list i = (row.entity ≡ entity) × (slice_get list i ≡ Some row.cells)
