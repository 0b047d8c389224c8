-- Statements on the table and its steps.
use Rattle.std.specs.Prelude.{◌≡◌, ◌≢◌, ◌↔◌, ℕ, ℤ, List, [], ◌∷◌, ◌++◌, true, false, not, if◌then◌else◌, Some, None, filter, flat_map}
use Rattle.std.specs.List.{Contains, AllByRecursion}
use Rattle.std.specs.List.Sorted.{IsStrictlySortedBy}
use Rattle.table_spec.specs.json_machine.Values.{IsValue}
use Rattle.table_spec.specs.fleet_rows.declared.change.ReportChange.{ReportChange}
use Rattle.table_spec.specs.fleet_rows.declared.change.Change.TheVariants.{Report}
use Rattle.table_spec.specs.fleet_rows.Change.{change_certname, change_kind}
use Rattle.table_spec.specs.fleet_rows.declared.command.Kind.TheVariants as kind
use Rattle.table_spec.specs.fleet_rows.declared.row.Entity.{Entity}
use Rattle.table_spec.specs.fleet_rows.declared.settings.Kinds.{Kinds}
use Rattle.table_spec.specs.fleet_rows.declared.settings.Ttls.{Ttls}
use Rattle.table_spec.specs.history_spec.Lawful.{IsChange}
use Rattle.table_spec.specs.fleet_rows.declared.applied.Applied.{Applied}
use Rattle.table_spec.specs.history_spec.Trace.{applied, swept, Trace, IsTrace}
use Rattle.table_spec.specs.history_spec.Thread.{Item, IsItem, OneThread}
use Rattle.table_spec.specs.history_spec.Node.{newest, deactivated, expired, is_purged}
use Rattle.table_spec.specs.history_spec.Facts.{rows_of_newest, fact_rows, active_fact_rows}
use Rattle.table_spec.specs.history_spec.Report.{report_object, is_below}
use Rattle.table_spec.specs.history_spec.Life.{life, is_empty, greatest_expiry, is_inactive, kept_reports}
use Rattle.table_spec.specs.Rows.{rows}
use Rattle.table_spec.specs.Sorted.{report_cmp}
use Rattle.table_machine.specs.Table.{Node, node_cmp, node_of, table_of}
use Rattle.table_machine.specs.Node.{node_deactivated, node_expired, node_inactive, node_purged}
use Rattle.table_machine.specs.Rows.{table_rows}
use Rattle.table_machine.specs.Steps.{empty_table, apply, expire, purge, retain, sweep, find_node, run}

-- ---- the empty table, and sweeps

abbrev pub BeginsEmpty : Type 0
BeginsEmpty = (ttls : Ttls) → table_of ttls [] ≡ empty_table ttls

abbrev pub SweepsAreFollowed : Type 0
SweepsAreFollowed =
    (ttls : Ttls) (kinds : Kinds) (m : ℤ) (history : Trace)
    → sweep kinds m (table_of ttls history) ≡ table_of ttls (swept kinds m ∷ history)

abbrev pub ExpiriesAreFollowed : Type 0
ExpiriesAreFollowed =
    (ttls : Ttls) (m : ℤ) (history : Trace)
    → expire m (table_of ttls history) ≡ table_of ttls (swept (record { expire = true; purge = false; reports = false }) m ∷ history)

abbrev pub PurgesAreFollowed : Type 0
PurgesAreFollowed =
    (ttls : Ttls) (m : ℤ) (history : Trace)
    → purge m (table_of ttls history) ≡ table_of ttls (swept (record { expire = false; purge = true; reports = false }) m ∷ history)

abbrev pub RetentionsAreFollowed : Type 0
RetentionsAreFollowed =
    (ttls : Ttls) (m : ℤ) (history : Trace)
    → retain m (table_of ttls history) ≡ table_of ttls (swept (record { expire = false; purge = false; reports = true }) m ∷ history)

-- ---- commands

-- the columns of a report that meets its rules are JSON: its numbers have the form of numbers, and its texts are UTF-8
abbrev pub ReportsHaveJsonColumns : Type 0
ReportsHaveJsonColumns = (r : ReportChange) → IsChange (Report r) → IsValue (report_object r)

abbrev pub CommandsAreFollowed : Type 0
CommandsAreFollowed =
    (ttls : Ttls) (x : Applied) (history : Trace) → IsTrace (applied x ∷ history)
    → apply x (table_of ttls history) ≡ table_of ttls (applied x ∷ history)

-- a command other than a report has no effect if its node's life has a command of its kind with a greater rank
abbrev pub OutrankedCommandsChangeNothing : Type 0
OutrankedCommandsChangeNothing =
    (ttls : Ttls) (history : Trace) (x y : Applied) → change_kind x.change ≢ kind.Report → change_kind y.change ≡ change_kind x.change
    → Contains (life ttls (change_certname x.change) history) y → is_below x y ≡ true
    → apply x (table_of ttls history) ≡ table_of ttls history

-- histories with equal tables have equal tables after any further events
abbrev pub TablesGoOnAlike : Type 0
TablesGoOnAlike =
    (ttls : Ttls) (later history other : Trace) → IsTrace (later ++ history) → IsTrace (later ++ other)
    → table_of ttls history ≡ table_of ttls other → table_of ttls (later ++ history) ≡ table_of ttls (later ++ other)

-- so a history with such a command has the same table as without it, at once and after any further events
abbrev pub SupersededCommandsSayNothing : Type 0
SupersededCommandsSayNothing =
    (ttls : Ttls) (later earlier : Trace) (x y : Applied) → IsTrace (later ++ applied x ∷ earlier)
    → change_kind x.change ≢ kind.Report → change_kind y.change ≡ change_kind x.change
    → Contains (life ttls (change_certname x.change) earlier) y → is_below x y ≡ true
    → table_of ttls (later ++ applied x ∷ earlier) ≡ table_of ttls (later ++ earlier)

-- ---- the contents of the table

-- a kept node tells the same deactivation as its life
abbrev pub NodesTellTheirDeactivation : Type 0
NodesTellTheirDeactivation =
    (ttls : Ttls) (history : Trace) (certname : List ℕ)
    → node_deactivated (node_of ttls history certname) ≡ deactivated (life ttls certname history)

abbrev pub NodesTellTheirExpiry : Type 0
NodesTellTheirExpiry =
    (ttls : Ttls) (history : Trace) (certname : List ℕ)
    → node_expired ttls (greatest_expiry history) (node_of ttls history certname) ≡ expired ttls (greatest_expiry history) (life ttls certname history)

abbrev pub NodesTellWhetherTheyAreInactive : Type 0
NodesTellWhetherTheyAreInactive =
    (ttls : Ttls) (history : Trace) (certname : List ℕ)
    → node_inactive ttls (greatest_expiry history) (node_of ttls history certname) ≡ is_inactive ttls history certname

abbrev pub NodesTellWhetherAPurgeTakesThem : Type 0
NodesTellWhetherAPurgeTakesThem =
    (ttls : Ttls) (m : ℤ) (history : Trace) (certname : List ℕ)
    → node_purged ttls m (greatest_expiry history) (node_of ttls history certname) ≡ is_purged ttls m (greatest_expiry history) (life ttls certname history)

-- the node has the newest command of each kind except reports
pub record HasTheNewest (node : Node) (xs : List Applied) : Type 0 where
  pub facts : node.facts ≡ newest kind.Facts xs
  pub catalog : node.catalog ≡ newest kind.Catalog xs
  pub deactivate : node.deactivate ≡ newest kind.Deactivate xs
  pub expiration : node.expiration ≡ newest kind.Expiration xs

abbrev pub NodesHaveTheNewest : Type 0
NodesHaveTheNewest = (ttls : Ttls) (history : Trace) (certname : List ℕ) → HasTheNewest (node_of ttls history certname) (life ttls certname history)

-- a node is found exactly if its life has a command
abbrev pub NodesAreFound : Type 0
NodesAreFound =
    (ttls : Ttls) (history : Trace) (certname : List ℕ)
    → find_node certname (table_of ttls history).nodes
    ≡ (if is_empty (life ttls certname history) then None else Some (node_of ttls history certname))

abbrev pub NodesAreStrictlySorted : Type 0
NodesAreStrictlySorted = (ttls : Ttls) (history : Trace) → IsStrictlySortedBy node_cmp (table_of ttls history).nodes

abbrev pub ReportsAreStrictlySorted : Type 0
ReportsAreStrictlySorted = (ttls : Ttls) (history : Trace) (certname : List ℕ) → IsStrictlySortedBy report_cmp (node_of ttls history certname).reports

-- a node's reports are exactly the kept ones; sorting drops none
abbrev pub ReportsAreThoseKept : Type 0
ReportsAreThoseKept =
    (ttls : Ttls) (history : Trace) (certname : List ℕ) (x : Applied) → IsTrace history
    → Contains (node_of ttls history certname).reports x ↔ Contains (kept_reports ttls certname history) x

-- the rows of facts are those of the nodes, in their order
abbrev pub FactRowsAreThoseOfTheNodes : Type 0
FactRowsAreThoseOfTheNodes =
    (ttls : Ttls) (history : Trace) → fact_rows ttls history ≡ flat_map (λ (node : Node). rows_of_newest node.facts) (table_of ttls history).nodes

abbrev pub ActiveFactRowsAreThoseOfTheNodes : Type 0
ActiveFactRowsAreThoseOfTheNodes =
    (ttls : Ttls) (history : Trace)
    → active_fact_rows ttls history
    ≡ flat_map (λ (node : Node). rows_of_newest node.facts) (filter (λ node. not (node_inactive ttls (greatest_expiry history) node)) (table_of ttls history).nodes)

-- for each entity the rows of the table are the rows of the history
abbrev pub RowsAreThoseOfTheHistory : Type 0
RowsAreThoseOfTheHistory =
    (entity : Entity) (ttls : Ttls) (history : Trace) → IsTrace history → table_rows entity (table_of ttls history) ≡ rows entity ttls history

-- the newest of the node's reports is the newest kept report
abbrev pub NodesHaveTheNewestReport : Type 0
NodesHaveTheNewestReport =
    (ttls : Ttls) (history : Trace) (certname : List ℕ) → IsTrace history
    → newest kind.Report (node_of ttls history certname).reports ≡ newest kind.Report (kept_reports ttls certname history)

-- ---- whole histories

-- the steps of the events, from an empty table, make the table of the history
abbrev pub StepsMakeTheTable : Type 0
StepsMakeTheTable = (ttls : Ttls) (history : Trace) → IsTrace history → run ttls history ≡ table_of ttls history

-- the steps also make the table of any history that one thread makes of items
abbrev pub OneThreadIsFollowed : Type 0
OneThreadIsFollowed =
    (ttls : Ttls) (items : List Item) (history : Trace) → AllByRecursion IsItem items → OneThread items history → run ttls history ≡ table_of ttls history
