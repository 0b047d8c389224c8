-- Statements on what rows show of their commands, column by column.
use Rattle.std.specs.Prelude.{◌≡◌, List, [], ◌∷◌, Bool, true, false, ◌||◌, Option, Some, None, codes}
use Rattle.std.proofs.Common.{inl, inr}
use Rattle.std.specs.List.{Contains}
use Rattle.table_machine.specs.text_spec.Json.{null}
use Rattle.table_machine.specs.fleet_rows.Cell.{CellValue, stamp, plain}
use Rattle.table_machine.specs.fleet_rows.Change.{change_stamp}
use Rattle.table_machine.specs.fleet_rows.declared.applied.Applied.{Applied}
use Rattle.table_machine.specs.fleet_rows.declared.command.Kind.{Kind}
use Rattle.table_machine.specs.fleet_rows.declared.command.Kind.TheVariants as kind
use Rattle.table_machine.specs.fleet_rows.declared.row.Entity.{Entity}
use Rattle.table_machine.specs.fleet_rows.declared.row.Entity.TheVariants.{Nodes, Reports}
use Rattle.table_machine.specs.fleet_rows.declared.settings.Ttls.{Ttls}
use Rattle.table_machine.specs.history_spec.Life.{life, greatest_expiry, is_inactive, kept_reports}
use Rattle.table_machine.specs.history_spec.Node.{newest, deactivated, expired}
use Rattle.table_machine.specs.history_spec.Report.{text_or_null, is_below}
use Rattle.table_machine.specs.history_spec.Trace.{Trace}
use Rattle.table_machine.specs.table_spec.Cells.{moment_or_null}
use Rattle.table_machine.specs.table_spec.Rows.{Cells, change_environment, rows}
use Rattle.table_laws.specs.JoinLaws.{certname_of, ShowsTheReport}
use Rattle.table_laws.specs.Named.{cell_under}
use Rattle.table_laws.specs.RowLaws.{IsReportOf}

-- the command's environment, or null if it has none or there is no command
abbrev pub shown_environment : Option Applied → CellValue
shown_environment None = plain null
shown_environment (Some x) = plain (text_or_null (change_environment x.change))

-- the command's timestamp, or null if there is no command
abbrev pub shown_timestamp : Option Applied → CellValue
shown_timestamp None = plain null
shown_timestamp (Some x) = stamp (change_stamp x.change)

-- ---- a node and its state

-- the node's row shows the moments from which it is deactivated and expired, each in its own column and null if it isn't. It also
-- shows the environments and timestamps of the newest facts and the newest catalog
pub record ShowsTheNode (ttls : Ttls) (history : Trace) (xs : List Applied) (node : Cells) : Type 0 where
  pub deactivated : cell_under Nodes (codes "deactivated") node ≡ moment_or_null (deactivated xs)
  pub expired : cell_under Nodes (codes "expired") node ≡ moment_or_null (expired ttls (greatest_expiry history) xs)
  pub facts_environment : cell_under Nodes (codes "facts_environment") node ≡ shown_environment (newest kind.Facts xs)
  pub facts_timestamp : cell_under Nodes (codes "facts_timestamp") node ≡ shown_timestamp (newest kind.Facts xs)
  pub catalog_environment : cell_under Nodes (codes "catalog_environment") node ≡ shown_environment (newest kind.Catalog xs)
  pub catalog_timestamp : cell_under Nodes (codes "catalog_timestamp") node ≡ shown_timestamp (newest kind.Catalog xs)

abbrev pub NodesShowTheirState : Type 0
NodesShowTheirState =
    (ttls : Ttls) (history : Trace) (node : Cells) → Contains (rows Nodes ttls history) node
    → ShowsTheNode ttls history (life ttls (certname_of Nodes node) history) node

-- the cell holds a moment
abbrev pub is_moment : CellValue → Bool
is_moment (inl m) = true
is_moment (inr j) = false

-- a node is inactive exactly if its row shows that it is deactivated or expired
abbrev pub NodesShowWhetherTheyAreInactive : Type 0
NodesShowWhetherTheyAreInactive =
    (ttls : Ttls) (history : Trace) (node : Cells) → Contains (rows Nodes ttls history) node
    → is_inactive ttls history (certname_of Nodes node)
    ≡ (is_moment (cell_under Nodes (codes "deactivated") node) || is_moment (cell_under Nodes (codes "expired") node))

-- ---- a node and its report of the greatest rank

pub record IsOfTheGreatestRank (reports : List Applied) (x : Applied) : Type 0 where
  pub one_of_them : Contains reports x
  pub greatest : (y : Applied) → Contains reports y → is_below x y ≡ false

-- of these reports the node's row shows the one of greatest rank, as that report's own row does; null if there is none
abbrev pub ShowsTheGreatest : List Applied → Cells → Type 0
ShowsTheGreatest [] node = ShowsTheReport node (λ name. plain null)
ShowsTheGreatest (first ∷ others) node =
    (x : Applied) × IsOfTheGreatestRank (first ∷ others) x
    × ((report : Cells) × IsReportOf x.received x.change report × ShowsTheReport node (λ name. cell_under Reports name report))

-- of kept reports with equal timestamps the node's row shows the one received last
abbrev pub NodesShowTheirGreatestReport : Type 0
NodesShowTheirGreatestReport =
    (ttls : Ttls) (history : Trace) (node : Cells) → Contains (rows Nodes ttls history) node
    → ShowsTheGreatest (kept_reports ttls (certname_of Nodes node) history) node

-- ---- rows and the environment of their command

-- the row comes from the newest command of this kind of the node whose certname it has, and shows the command's environment
pub record ShowsItsEnvironment (entity : Entity) (k : Kind) (ttls : Ttls) (history : Trace) (row : Cells) : Type 0 where
  pub command : Applied
  pub is_newest : newest k (life ttls (certname_of entity row) history) ≡ Some command
  pub environment : cell_under entity (codes "environment") row ≡ plain (text_or_null (change_environment command.change))

abbrev pub RowsShowTheirEnvironment : Entity → Kind → Type 0
RowsShowTheirEnvironment entity k =
    (ttls : Ttls) (history : Trace) (row : Cells) → Contains (rows entity ttls history) row → ShowsItsEnvironment entity k ttls history row

-- ---- reports and when they were received

-- the row comes from a kept report of the node whose certname it has. It shows that report's environment and moment of receipt,
-- which is null if unknown
pub record ShowsItsReceipt (ttls : Ttls) (history : Trace) (row : Cells) : Type 0 where
  pub command : Applied
  pub kept : Contains (kept_reports ttls (certname_of Reports row) history) command
  pub is_of : IsReportOf command.received command.change row
  pub receive_time : cell_under Reports (codes "receive_time") row ≡ moment_or_null command.received
  pub environment : cell_under Reports (codes "environment") row ≡ plain (text_or_null (change_environment command.change))

abbrev pub ReportsShowTheirReceipt : Type 0
ReportsShowTheirReceipt =
    (ttls : Ttls) (history : Trace) (row : Cells) → Contains (rows Reports ttls history) row → ShowsItsReceipt ttls history row
