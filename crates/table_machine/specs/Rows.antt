-- The rows that the table shows, entity by entity.
use Rattle.std.specs.Prelude.{ℤ, List, [], ◌∷◌, Option, flat_map}
use Rattle.table_spec.specs.fleet_rows.declared.command.Kind.TheVariants as kind
use Rattle.table_spec.specs.fleet_rows.declared.row.Entity.{Entity}
use Rattle.table_spec.specs.fleet_rows.declared.row.Entity.TheVariants.{Nodes, Factsets, Facts, Catalogs, Resources, Edges, Reports}
use Rattle.table_spec.specs.fleet_rows.declared.settings.Ttls.{Ttls}
use Rattle.table_spec.specs.fleet_rows.declared.applied.Applied.{Applied}
use Rattle.table_spec.specs.history_spec.Node.{newest}
use Rattle.table_spec.specs.Rows.{Cells, change_of, shown, factset_rows, fact_rows, catalog_rows, resource_rows, edge_rows, report_rows, node_cells}
use Rattle.table_machine.specs.Table.{Node, Table}
use Rattle.table_machine.specs.Node.{node_deactivated, node_expired}

-- the rows of one node
abbrev pub node_rows : Entity → Ttls → Option ℤ → Node → List Cells
node_rows Nodes ttls expiry node =
    node_cells node.certname (node_deactivated node) (node_expired ttls expiry node)
    (change_of node.facts) (change_of node.catalog) (change_of (newest kind.Report node.reports)) ∷ []
node_rows Factsets ttls expiry node = shown factset_rows (change_of node.facts)
node_rows Facts ttls expiry node = shown fact_rows (change_of node.facts)
node_rows Catalogs ttls expiry node = shown catalog_rows (change_of node.catalog)
node_rows Resources ttls expiry node = shown resource_rows (change_of node.catalog)
node_rows Edges ttls expiry node = shown edge_rows (change_of node.catalog)
node_rows Reports ttls expiry node = flat_map (λ (x : Applied). report_rows x.received x.change) node.reports
node_rows _ ttls expiry node = []

abbrev pub table_rows : Entity → Table → List Cells
table_rows entity table = flat_map (node_rows entity table.ttls table.expiry) table.nodes
