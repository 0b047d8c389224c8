-- The rows of a history: for each entity the list of its rows, sorted by their keys.
use Rattle.std.specs.Prelude.{ℕ, ℤ, List, [], ◌∷◌, not, Option, Some, None, map, filter, flat_map}
use Rattle.std.specs.Option.{option_map}
use Rattle.history_spec.specs.text_spec.Json.{Json, null, string}
use Rattle.history_spec.specs.fleet_rows.Cell.{CellValue, stamp, plain}
use Rattle.history_spec.specs.fleet_rows.Change.{change_stamp}
use Rattle.history_spec.specs.fleet_rows.declared.change.Change.{Change}
use Rattle.history_spec.specs.fleet_rows.declared.change.Change.TheVariants as change
use Rattle.history_spec.specs.fleet_rows.declared.change.ReportChange.{ReportChange}
use Rattle.history_spec.specs.fleet_rows.declared.command.Kind.{Kind}
use Rattle.history_spec.specs.fleet_rows.declared.command.Kind.TheVariants as kind
use Rattle.history_spec.specs.fleet_rows.declared.row.Entity.{Entity}
use Rattle.history_spec.specs.fleet_rows.declared.row.Entity.TheVariants.{Nodes, Factsets, Facts, Catalogs, Resources, Edges, Reports}
use Rattle.history_spec.specs.fleet_rows.declared.settings.Ttls.{Ttls}
use Rattle.history_spec.specs.Facts.{rows_of_facts}
use Rattle.history_spec.specs.Life.{life, nodes, greatest_expiry, is_inactive, kept_reports}
use Rattle.history_spec.specs.Node.{newest, deactivated, expired}
use Rattle.history_spec.specs.Report.{text_or_null, bool_or_null, report_object}
use Rattle.history_spec.specs.fleet_rows.declared.applied.Applied.{Applied}
use Rattle.history_spec.specs.Trace.{Trace}
use Rattle.table_spec.specs.Cells.{moment_or_null, text_cell, hash, factset_cells, fact_cells, catalog_cells, resource_cells, edge_cells, report_cells}
use Rattle.table_spec.specs.Sorted.{sorted_by, resource_cmp, edge_cmp, report_cmp}

abbrev pub Cells : Type 0
Cells = List CellValue

-- ---- the rows that one command shows; a command of another kind shows none

abbrev pub factset_rows : Change → List Cells
factset_rows (change.Facts c) = factset_cells c ∷ []
factset_rows _ = []

-- a row for each fact, by name
abbrev pub fact_rows : Change → List Cells
fact_rows (change.Facts c) = map fact_cells (rows_of_facts c)
fact_rows _ = []

abbrev pub catalog_rows : Change → List Cells
catalog_rows (change.Catalog c) = catalog_cells c ∷ []
catalog_rows _ = []

abbrev pub resource_rows : Change → List Cells
resource_rows (change.Catalog c) = map (resource_cells c) (sorted_by resource_cmp c.resources)
resource_rows _ = []

abbrev pub edge_rows : Change → List Cells
edge_rows (change.Catalog c) = map (edge_cells c) (sorted_by edge_cmp c.edges)
edge_rows _ = []

-- the row of a report, with its moment of receipt
abbrev pub report_rows : Option ℤ → Change → List Cells
report_rows received (change.Report r) = report_cells received r ∷ []
report_rows received _ = []

abbrev pub change_of : Option Applied → Option Change
change_of = option_map (λ (x : Applied). x.change)

abbrev pub shown : (Change → List Cells) → Option Change → List Cells
shown rows None = []
shown rows (Some c) = rows c

-- ---- the row of a node

abbrev pub change_environment : Change → Option (List ℕ)
change_environment (change.Facts c) = c.environment
change_environment (change.Catalog c) = c.environment
change_environment (change.Report c) = c.environment
change_environment (change.Deactivate c) = None
change_environment (change.Expiration c) = None

abbrev pub environment_cell : Option Change → CellValue
environment_cell None = plain null
environment_cell (Some c) = plain (text_or_null (change_environment c))

abbrev pub timestamp_cell : Option Change → CellValue
timestamp_cell None = plain null
timestamp_cell (Some c) = stamp (change_stamp c)

-- a column of a report
abbrev pub of_report : (ReportChange → Json) → Change → CellValue
of_report column (change.Report r) = plain (column r)
of_report column _ = plain null

abbrev pub report_cell : (ReportChange → Json) → Option Change → CellValue
report_cell column None = plain null
report_cell column (Some c) = of_report column c

-- the row of a node with these moments of deactivation and expiry and these newest commands
abbrev pub node_cells : List ℕ → Option ℤ → Option ℤ → Option Change → Option Change → Option Change → Cells
node_cells node deactivated expired facts catalog report =
    environment_cell catalog
    ∷ timestamp_cell catalog
    ∷ text_cell node
    ∷ moment_or_null deactivated
    ∷ moment_or_null expired
    ∷ environment_cell facts
    ∷ timestamp_cell facts
    ∷ report_cell (λ r. string (hash (report_object r))) report
    ∷ report_cell (λ r. bool_or_null r.noop) report
    ∷ report_cell (λ r. text_or_null r.status) report
    ∷ environment_cell report
    ∷ timestamp_cell report
    ∷ []

-- ---- the rows of a history

-- the node's newest change of a kind
abbrev pub newest_change : Kind → Ttls → Trace → List ℕ → Option Change
newest_change k ttls history node = change_of (newest k (life ttls node history))

-- the rows of one node. The node's own row shows the kept report of greatest rank. The tables have no rows of the other entities
abbrev pub rows_of : Entity → Ttls → Trace → List ℕ → List Cells
rows_of Nodes ttls history node =
    let xs = life ttls node history in
    node_cells node (deactivated xs) (expired ttls (greatest_expiry history) xs)
    (newest_change kind.Facts ttls history node) (newest_change kind.Catalog ttls history node)
    (change_of (newest kind.Report (kept_reports ttls node history))) ∷ []
rows_of Factsets ttls history node = shown factset_rows (newest_change kind.Facts ttls history node)
rows_of Facts ttls history node = shown fact_rows (newest_change kind.Facts ttls history node)
rows_of Catalogs ttls history node = shown catalog_rows (newest_change kind.Catalog ttls history node)
rows_of Resources ttls history node = shown resource_rows (newest_change kind.Catalog ttls history node)
rows_of Edges ttls history node = shown edge_rows (newest_change kind.Catalog ttls history node)
rows_of Reports ttls history node =
    flat_map (λ (x : Applied). report_rows x.received x.change) (sorted_by report_cmp (kept_reports ttls node history))
rows_of _ ttls history node = []

-- all rows, sorted by certname, then by the rest of the key
abbrev pub rows : Entity → Ttls → Trace → List Cells
rows entity ttls history = flat_map (rows_of entity ttls history) (nodes ttls history)

-- the rows of nodes that are neither deactivated nor expired
abbrev pub active_rows : Entity → Ttls → Trace → List Cells
active_rows entity ttls history =
    flat_map (rows_of entity ttls history) (filter (λ node. not (is_inactive ttls history node)) (nodes ttls history))
