-- Statements on how the rows of one node agree across entities.
use Rattle.std.specs.Prelude.{◌≡◌, ℕ, ℤ, ◌≤ℤ◌, List, [], ◌∷◌, map, filter, codes}
use Rattle.std.specs.List.{Contains}
use Rattle.std.specs.Str.{bytes_eq}
use Rattle.table_machine.specs.text_spec.Json.{Json, null, string, array, object, items_of, members_of}
use Rattle.table_machine.specs.text_spec.Compact.{insert_member}
use Rattle.table_machine.specs.fleet_rows.Cell.{CellValue, plain}
use Rattle.table_machine.specs.fleet_rows.declared.row.Entity.{Entity}
use Rattle.table_machine.specs.fleet_rows.declared.row.Entity.TheVariants.{Nodes, Factsets, Catalogs, Resources, Edges, Reports}
use Rattle.table_machine.specs.fleet_rows.declared.settings.Ttls.{Ttls}
use Rattle.table_machine.specs.history_spec.Life.{nodes}
use Rattle.table_machine.specs.history_spec.Trace.{Trace}
use Rattle.table_machine.specs.table_spec.Cells.{hash}
use Rattle.table_machine.specs.table_spec.Rows.{Cells, rows}
use Rattle.table_laws.specs.Named.{cell_under, value_under, values_without}
use Rattle.table_laws.specs.SortLaws.{text_under, moment_under}

abbrev pub certname_of : Entity → Cells → List ℕ
certname_of entity row = text_under entity (codes "certname") row

-- the rows with this certname
abbrev pub rows_with : Entity → Ttls → Trace → List ℕ → List Cells
rows_with entity ttls history certname = filter (λ row. bytes_eq certname (certname_of entity row)) (rows entity ttls history)

-- each node has exactly one row, in the order of the nodes
abbrev pub NodesHaveOneRow : Type 0
NodesHaveOneRow = (ttls : Ttls) (history : Trace) → map (certname_of Nodes) (rows Nodes ttls history) ≡ nodes ttls history

-- each row of every entity belongs to a node that has its own row
abbrev pub RowsAreOfNodes : Type 0
RowsAreOfNodes =
    (entity : Entity) (ttls : Ttls) (history : Trace) (row : Cells) → Contains (rows entity ttls history) row
    → (node : Cells) × Contains (rows Nodes ttls history) node × (certname_of Nodes node ≡ certname_of entity row)

-- ---- a node and its facts and catalog

-- the cell in this column of the first row, or null if there is no row
abbrev pub cell_of_first : Entity → List ℕ → List Cells → CellValue
cell_of_first entity name [] = plain null
cell_of_first entity name (row ∷ later) = cell_under entity name row

-- two columns of the node's row have the environment and the timestamp of the node's row of that entity
pub record ShowsTheRow (entity : Entity) (environment_name timestamp_name : List ℕ) (ttls : Ttls) (history : Trace) (node : Cells) : Type 0 where
  pub environment : cell_under Nodes environment_name node ≡ cell_of_first entity (codes "environment") (rows_with entity ttls history (certname_of Nodes node))
  pub timestamp : cell_under Nodes timestamp_name node ≡ cell_of_first entity (codes "producer_timestamp") (rows_with entity ttls history (certname_of Nodes node))

abbrev pub NodesShowTheirFactset : Type 0
NodesShowTheirFactset =
    (ttls : Ttls) (history : Trace) (node : Cells) → Contains (rows Nodes ttls history) node
    → ShowsTheRow Factsets (codes "facts_environment") (codes "facts_timestamp") ttls history node

abbrev pub NodesShowTheirCatalog : Type 0
NodesShowTheirCatalog =
    (ttls : Ttls) (history : Trace) (node : Cells) → Contains (rows Nodes ttls history) node
    → ShowsTheRow Catalogs (codes "catalog_environment") (codes "catalog_timestamp") ttls history node

-- ---- a node and its latest report

abbrev pub timestamp_of_report : Cells → ℤ
timestamp_of_report row = moment_under Reports (codes "producer_timestamp") row

-- one of these rows, with the latest timestamp among them
pub record IsLatestOf (reports : List Cells) (report : Cells) : Type 0 where
  pub one_of_them : Contains reports report
  pub latest : (other : Cells) → Contains reports other → timestamp_of_report other ≤ℤ timestamp_of_report report

-- five columns of the node's row show the report's values of these names
pub record ShowsTheReport (node : Cells) (cell : List ℕ → CellValue) : Type 0 where
  pub hash : cell_under Nodes (codes "latest_report_hash") node ≡ cell (codes "hash")
  pub noop : cell_under Nodes (codes "latest_report_noop") node ≡ cell (codes "noop")
  pub status : cell_under Nodes (codes "latest_report_status") node ≡ cell (codes "status")
  pub environment : cell_under Nodes (codes "report_environment") node ≡ cell (codes "environment")
  pub timestamp : cell_under Nodes (codes "report_timestamp") node ≡ cell (codes "producer_timestamp")

-- the node's row shows the latest of these reports, or null if there is none
abbrev pub ShowsTheLatest : List Cells → Cells → Type 0
ShowsTheLatest [] node = ShowsTheReport node (λ name. plain null)
ShowsTheLatest (first ∷ others) node =
    (report : Cells) × IsLatestOf (first ∷ others) report × ShowsTheReport node (λ name. cell_under Reports name report)

abbrev pub NodesShowTheirLatestReport : Type 0
NodesShowTheirLatestReport =
    (ttls : Ttls) (history : Trace) (node : Cells) → Contains (rows Nodes ttls history) node
    → ShowsTheLatest (rows_with Reports ttls history (certname_of Nodes node)) node

-- ---- a catalog and its resources and edges

-- the hashes of the resources with this certname, in the order of their rows
abbrev pub resources_with : Ttls → Trace → List ℕ → Json
resources_with ttls history certname =
    array (items_of (map (value_under Resources (codes "resource")) (rows_with Resources ttls history certname)))

-- an edge by its columns except certname: source, target and relationship
abbrev pub edge_of_row : Cells → Json
edge_of_row row =
    array (items_of (map (λ name. value_under Edges name row)
    (codes "source_type" ∷ codes "source_title" ∷ codes "target_type" ∷ codes "target_title" ∷ codes "relationship" ∷ [])))

abbrev pub edges_with : Ttls → Trace → List ℕ → Json
edges_with ttls history certname = array (items_of (map edge_of_row (rows_with Edges ttls history certname)))

-- a catalog's hash is that of its other columns together with its edges and its resources' hashes, sorted by name
abbrev pub CatalogsAreHashed : Type 0
CatalogsAreHashed =
    (ttls : Ttls) (history : Trace) (row : Cells) → Contains (rows Catalogs ttls history) row
    → value_under Catalogs (codes "hash") row
    ≡ string (hash (object (insert_member (codes "edges") (edges_with ttls history (certname_of Catalogs row))
    (insert_member (codes "resources") (resources_with ttls history (certname_of Catalogs row))
    (members_of (values_without (codes "hash" ∷ []) Catalogs row))))))
