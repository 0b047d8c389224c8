use Rattle.std.proofs.Common.{◌≡◌, ◌++◌, drop, map}
use Rattle.fleet_tables.specs.fleet_rows.Columns.{column_name}
use Rattle.query_rows.proofs.cells.names_of.Given as goal

abbrev pub invariant-loop-column : goal.invariant-loop-column
invariant-loop-column l = l.names ++ map column_name (drop l.column-index l.columns) ≡ map column_name l.columns
