-- The effect of commands and sweeps on the table, step by step.
use Rattle.std.specs.Prelude.{ℕ, ℤ, List, [], ◌∷◌, length, Bool, ◌&&◌, not, nat_lt, if◌then◌else◌, Option, Some, None, filter, map}
use Rattle.std.specs.List.{list_any}
use Rattle.std.specs.declared.cmp.Ordering.{Ordering}
use Rattle.table_spec.specs.text_spec.Compact.{text_cmp}
use Rattle.table_spec.specs.fleet_rows.declared.command.Kind.{Kind}
use Rattle.table_spec.specs.fleet_rows.declared.command.Kind.TheVariants as kind
use Rattle.table_spec.specs.fleet_rows.declared.settings.Kinds.{Kinds}
use Rattle.table_spec.specs.fleet_rows.declared.settings.Ttls.{Ttls}
use Rattle.table_spec.specs.fleet_rows.Change.{change_certname, change_stamp}
use Rattle.table_spec.specs.fleet_rows.declared.applied.Applied.{Applied}
use Rattle.table_spec.specs.history_spec.Trace.{applied, swept, Trace, is_kind}
use Rattle.table_spec.specs.history_spec.Node.{later, greater, is_activity}
use Rattle.table_spec.specs.history_spec.Report.{is_retained, is_below}
use Rattle.table_machine.specs.Places as places
use Rattle.table_spec.specs.Sorted.{report_cmp}
use Rattle.table_machine.specs.Table.{Node, Table}
use Rattle.table_machine.specs.Node.{node_purged}

abbrev pub empty_node : List ℕ → Node
empty_node certname = record { certname = certname; active = None; facts = None; catalog = None; deactivate = None; expiration = None; reports = [] }

abbrev pub empty_table : Ttls → Table
empty_table ttls = record { ttls = ttls; expiry = None; retention = None; nodes = [] }

-- ---- a command

-- the command of greater rank; the first if neither is
abbrev pub of_greater_rank : Applied → Applied → Applied
of_greater_rank x y = if is_below x y then y else x

-- inserts the report, unless a report equal in the order has a greater rank
abbrev pub put_report : Applied → List Applied → List Applied
put_report x reports = places.put (report_cmp x) x (of_greater_rank x) reports

-- removes the first report of the least rank: the first that no later report is below
abbrev pub without_least : List Applied → List Applied
without_least [] = []
without_least (x ∷ xs) = if list_any (λ y. is_below y x) xs then x ∷ without_least xs else xs

-- removes that report if there are more than the limit
abbrev pub limited : Option ℕ → List Applied → List Applied
limited None reports = reports
limited (Some count) reports = if nat_lt count (length reports) then without_least reports else reports

-- adds the report, unless it is too old for the greatest sweep of reports
abbrev pub with_report : Ttls → Option ℤ → Applied → List Applied → List Applied
with_report ttls retention x reports =
    if is_kind kind.Report x && is_retained ttls retention x then limited ttls.report_count (put_report x reports) else reports

abbrev pub with_newest : Kind → Applied → Option Applied → Option Applied
with_newest k x newest = if is_kind k x then greater x newest else newest

abbrev pub with_applied : Ttls → Option ℤ → Applied → Node → Node
with_applied ttls retention x node = record {
  certname = node.certname;
  active = if is_activity x then later (change_stamp x.change) node.active else node.active;
  facts = with_newest kind.Facts x node.facts;
  catalog = with_newest kind.Catalog x node.catalog;
  deactivate = with_newest kind.Deactivate x node.deactivate;
  expiration = with_newest kind.Expiration x node.expiration;
  reports = with_report ttls retention x node.reports;
}

-- compares a certname with a node's
abbrev pub stands : List ℕ → Node → Ordering
stands certname node = text_cmp certname node.certname

abbrev pub find_node : List ℕ → List Node → Option Node
find_node certname nodes = places.find (stands certname) nodes

-- changes the node, or inserts a new node with the change
abbrev pub with_node : List ℕ → (Node → Node) → List Node → List Node
with_node certname change nodes = places.put (stands certname) (change (empty_node certname)) change nodes

abbrev pub apply : Applied → Table → Table
apply x table = record table { nodes = with_node (change_certname x.change) (with_applied table.ttls table.retention x) table.nodes }

-- ---- a sweep

abbrev pub expire : ℤ → Table → Table
expire m table = record table { expiry = later m table.expiry }

abbrev pub purge : ℤ → Table → Table
purge m table = record table { nodes = filter (λ node. not (node_purged table.ttls m table.expiry node)) table.nodes }

abbrev pub with_retained : Ttls → Option ℤ → Node → Node
with_retained ttls retention node = record node { reports = filter (is_retained ttls retention) node.reports }

abbrev pub retain : ℤ → Table → Table
retain m table = record table { retention = later m table.retention; nodes = map (with_retained table.ttls (later m table.retention)) table.nodes }

abbrev pub step_if : Bool → (Table → Table) → Table → Table
step_if asked step table = if asked then step table else table

-- expires nodes first, then purges nodes, then removes reports
abbrev pub sweep : Kinds → ℤ → Table → Table
sweep kinds m table = step_if kinds.reports (retain m) (step_if kinds.purge (purge m) (step_if kinds.expire (expire m) table))

-- ---- a history

-- the steps of the events, from an empty table
abbrev pub run : Ttls → Trace → Table
run ttls [] = empty_table ttls
run ttls (applied x ∷ earlier) = apply x (run ttls earlier)
run ttls (swept kinds m ∷ earlier) = sweep kinds m (run ttls earlier)
