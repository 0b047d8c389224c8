-- The names of each entity's columns, in their order.
use Rattle.std.specs.Prelude.{ℕ, List, map}
use Rattle.history_spec.specs.fleet_rows.Columns.{column_name, columns_of}
use Rattle.history_spec.specs.fleet_rows.declared.row.Entity.{Entity}

abbrev pub columns : Entity → List (List ℕ)
columns entity = map column_name (columns_of entity)
