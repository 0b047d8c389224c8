-- The rows of active nodes: of those that are neither deactivated nor expired.
use Rattle.std.specs.Prelude.{ℕ, ℤ, List, [], Bool, not, Option, codes, flat_map, if◌then◌else◌}
use Rattle.std.proofs.Common.{inr}
use Rattle.checkpoint_spec.specs.fleet_rows.Cell.{CellValue}
use Rattle.checkpoint_spec.specs.fleet_rows.declared.row.Entity.{Entity}
use Rattle.checkpoint_spec.specs.fleet_rows.declared.settings.Ttls.{Ttls}
use Rattle.checkpoint_spec.specs.table_machine.Node.{node_inactive}
use Rattle.checkpoint_spec.specs.table_machine.Rows.{node_rows}
use Rattle.checkpoint_spec.specs.table_machine.Table.{Node, Table}
use Rattle.checkpoint_spec.specs.table_spec.Columns.{columns}
use Rattle.checkpoint_spec.specs.table_spec.Named.{cell_under}
use Rattle.checkpoint_spec.specs.table_spec.Rows.{Cells}
use Rattle.checkpoint_spec.specs.text_spec.Json.{string}
use Rattle.fleet_tables.specs.Asked.{is_inactive_in}

-- the text of a cell, or the empty text
abbrev pub text_shown : CellValue → List ℕ
text_shown (inr (string s)) = s
text_shown _ = []

-- the certname in a row
abbrev pub certname_in : Entity → Cells → List ℕ
certname_in entity row = text_shown (cell_under (columns entity) (codes "certname") row)

-- the row's node is active
abbrev pub is_active_row : Entity → Table → Cells → Bool
is_active_row entity table row = not (is_inactive_in table (certname_in entity row))

-- the rows of a node, if it is active
abbrev pub active_rows : Entity → Ttls → Option ℤ → Node → List Cells
active_rows entity ttls expiry node = if node_inactive ttls expiry node then [] else node_rows entity ttls expiry node

abbrev pub active_rows_of : Entity → Ttls → Option ℤ → List Node → List Cells
active_rows_of entity ttls expiry nodes = flat_map (active_rows entity ttls expiry) nodes
