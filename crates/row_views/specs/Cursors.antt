-- Where a cursor stands: the node whose rows are read, and which rows of the tables they are.
use Rattle.std.specs.Prelude.{◌≡◌, ℕ, ◌+◌, ◌<◌, slice_get}
use Rattle.fleet_tables.specs.fleet_rows.declared.row.Entity.{Entity}
use Rattle.fleet_tables.specs.table_machine.Rows.{node_rows, table_rows}
use Rattle.fleet_tables.specs.table_machine.Table.{Table}
use Rattle.kept_nodes.specs.Counted.{counts, count_of}
use Rattle.kept_nodes.specs.Kept.{IsNode}
use Rattle.kept_nodes.specs.Seen.{node_seen}
use Rattle.kept_nodes.specs.declared.node.Node.{Node}
use Rattle.row_views.specs.declared.cursor.Spot.{Spot}

-- row i of the table is row j of the node
pub record IsPlace (entity : Entity) (table : Table) (i : ℕ) (node : Node) (j : ℕ) : Type 0 where
  pub kept : IsNode node
  pub within : j < count_of entity (counts node)
  pub row : slice_get (table_rows entity table) i ≡ slice_get (node_rows entity table.ttls table.expiry (node_seen node)) j

-- the node's rows from the spot on are the table's
pub record IsSpot (entity : Entity) (table : Table) (s : Spot) : Type 0 where
  pub within : s.at < s.count
  pub further : (d : ℕ) → s.at + d < s.count → IsPlace entity table (s.from + d) s.node.now (s.at + d)
