-- Statements on which rows there are.
use Rattle.std.specs.Prelude.{◌≡◌, ◌↔◌, ℕ, ℤ, List, length, Option, Some, map}
use Rattle.std.specs.List.{Contains}
use Rattle.std.specs.List.Sorted.{IsStrictlySortedBy}
use Rattle.table_machine.specs.text_spec.Compact.{text_cmp}
use Rattle.table_machine.specs.fleet_rows.declared.catalog.Edge.{Edge}
use Rattle.table_machine.specs.fleet_rows.declared.catalog.Resource.{Resource}
use Rattle.table_machine.specs.fleet_rows.declared.change.Change.{Change}
use Rattle.table_machine.specs.fleet_rows.declared.change.Change.TheVariants as change
use Rattle.table_machine.specs.fleet_rows.declared.command.Kind.{Kind}
use Rattle.table_machine.specs.fleet_rows.declared.command.Kind.TheVariants as kind
use Rattle.table_machine.specs.fleet_rows.declared.row.Entity.{Entity}
use Rattle.table_machine.specs.fleet_rows.declared.row.Entity.TheVariants.{Factsets, Facts, Catalogs, Resources, Edges, Reports}
use Rattle.table_machine.specs.fleet_rows.declared.settings.Ttls.{Ttls}
use Rattle.table_machine.specs.history_spec.Facts as facts
use Rattle.table_machine.specs.history_spec.Life.{life, kept_reports}
use Rattle.table_machine.specs.history_spec.Node.{newest}
use Rattle.table_machine.specs.fleet_rows.declared.applied.Applied.{Applied}
use Rattle.table_machine.specs.history_spec.Trace.{Trace}
use Rattle.table_machine.specs.table_spec.Cells.{factset_cells, fact_cells, catalog_cells, resource_cells, edge_cells, report_cells}
use Rattle.table_machine.specs.table_spec.Columns.{columns}
use Rattle.table_machine.specs.table_spec.Rows.{Cells, rows, active_rows}

-- ---- columns

-- columns are strictly sorted by name
abbrev pub ColumnsAreStrictlySorted : Type 0
ColumnsAreStrictlySorted = (entity : Entity) → IsStrictlySortedBy text_cmp (columns entity)

-- each row has one cell for each column
abbrev pub RowsFillTheirColumns : Type 0
RowsFillTheirColumns =
    (entity : Entity) (ttls : Ttls) (history : Trace) (row : Cells)
    → Contains (rows entity ttls history) row → length row ≡ length (columns entity)

-- ---- rows of commands

-- the change is facts, and these are its cells
abbrev pub IsFactsetOf : Change → Cells → Type 0
IsFactsetOf (change.Facts c) row = row ≡ factset_cells c
IsFactsetOf _ row = ⊥

-- the change is a catalog, and these are its cells
abbrev pub IsCatalogOf : Change → Cells → Type 0
IsCatalogOf (change.Catalog c) row = row ≡ catalog_cells c
IsCatalogOf _ row = ⊥

-- the change is a catalog with a resource of these cells
abbrev pub IsResourceOf : Change → Cells → Type 0
IsResourceOf (change.Catalog c) row = (resource : Resource) × Contains c.resources resource × (row ≡ resource_cells c resource)
IsResourceOf _ row = ⊥

-- the change is a catalog with an edge of these cells
abbrev pub IsEdgeOf : Change → Cells → Type 0
IsEdgeOf (change.Catalog c) row = (edge : Edge) × Contains c.edges edge × (row ≡ edge_cells c edge)
IsEdgeOf _ row = ⊥

-- the change is a report, and these are its cells with this moment of receipt
abbrev pub IsReportOf : Option ℤ → Change → Cells → Type 0
IsReportOf received (change.Report c) row = row ≡ report_cells received c
IsReportOf received _ row = ⊥

-- the row comes from some node's newest command of this kind
pub record IsOfTheNewest (k : Kind) (Shows : Change → Cells → Type 0) (ttls : Ttls) (history : Trace) (row : Cells) : Type 0 where
  pub node : List ℕ
  pub command : Applied
  pub is_newest : newest k (life ttls node history) ≡ Some command
  pub shows : Shows command.change row

abbrev pub FactsetsAreOfTheNewest : Type 0
FactsetsAreOfTheNewest =
    (ttls : Ttls) (history : Trace) (row : Cells)
    → Contains (rows Factsets ttls history) row ↔ IsOfTheNewest kind.Facts IsFactsetOf ttls history row

abbrev pub CatalogsAreOfTheNewest : Type 0
CatalogsAreOfTheNewest =
    (ttls : Ttls) (history : Trace) (row : Cells)
    → Contains (rows Catalogs ttls history) row ↔ IsOfTheNewest kind.Catalog IsCatalogOf ttls history row

abbrev pub ResourcesAreOfTheNewest : Type 0
ResourcesAreOfTheNewest =
    (ttls : Ttls) (history : Trace) (row : Cells)
    → Contains (rows Resources ttls history) row ↔ IsOfTheNewest kind.Catalog IsResourceOf ttls history row

abbrev pub EdgesAreOfTheNewest : Type 0
EdgesAreOfTheNewest =
    (ttls : Ttls) (history : Trace) (row : Cells)
    → Contains (rows Edges ttls history) row ↔ IsOfTheNewest kind.Catalog IsEdgeOf ttls history row

-- the rows of facts are the history's fact rows, in their order
abbrev pub FactsAreThoseOfTheHistory : Type 0
FactsAreThoseOfTheHistory = (ttls : Ttls) (history : Trace) → rows Facts ttls history ≡ map fact_cells (facts.fact_rows ttls history)

-- the rows of active nodes' facts are the history's active fact rows
abbrev pub ActiveFactsAreThoseOfTheHistory : Type 0
ActiveFactsAreThoseOfTheHistory =
    (ttls : Ttls) (history : Trace) → active_rows Facts ttls history ≡ map fact_cells (facts.active_fact_rows ttls history)

-- the row comes from a kept report of some node
pub record IsOfAKeptReport (ttls : Ttls) (history : Trace) (row : Cells) : Type 0 where
  pub node : List ℕ
  pub command : Applied
  pub kept : Contains (kept_reports ttls node history) command
  pub shows : IsReportOf command.received command.change row

abbrev pub ReportsAreThoseKept : Type 0
ReportsAreThoseKept =
    (ttls : Ttls) (history : Trace) (row : Cells) → Contains (rows Reports ttls history) row ↔ IsOfAKeptReport ttls history row
