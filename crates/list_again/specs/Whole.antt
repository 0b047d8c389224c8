-- Tables that meet the rules of a history's table, and the history by which such a table is told again.
use Rattle.std.specs.Prelude.{◌≡◌, ◌≢◌, ◌⊎◌, ℕ, ℤ, List, [], ◌++◌, Bool, false, Option, Some, None, is_some, true, if◌then◌else◌, map}
use Rattle.std.specs.List.{AllByRecursion}
use Rattle.std.specs.List.Sorted.{IsStrictlySortedBy}
use Rattle.std.specs.Option.{option_map}
use Rattle.std.specs.Ordering.{int_eq}
use Rattle.checkpoint_spec.specs.fleet_rows.declared.applied.Applied.{Applied}
use Rattle.checkpoint_spec.specs.fleet_rows.declared.change.Change.{Change}
use Rattle.checkpoint_spec.specs.fleet_rows.declared.change.Change.TheVariants.{Report}
use Rattle.checkpoint_spec.specs.fleet_rows.declared.command.Kind.TheVariants as kind
use Rattle.checkpoint_spec.specs.fleet_rows.declared.settings.Ttls.{Ttls}
use Rattle.checkpoint_spec.specs.history_spec.Node.{later, greatest_activity}
use Rattle.checkpoint_spec.specs.history_spec.Trace.{Trace, applied_as}
use Rattle.checkpoint_spec.specs.table_spec.Sorted.{report_cmp, sorted_by}
use Rattle.checkpoint_spec.specs.table_machine.Table.{Node, Table, node_cmp}
use Rattle.checkpoint_spec.specs.Lists.{by_rank}
use Rattle.list_again.specs.Rules.{IfOf, AreKept, is_old}
use Rattle.list_again.specs.Told.{Told, if_there, change_in, history_told}

-- ---- rules

-- the greatest stamp of the node's facts, its catalog and its kept reports
abbrev pub greatest_there : Node → Option ℤ
greatest_there node = greatest_activity (if_there node.facts ++ (if_there node.catalog ++ node.reports))

-- the greatest activity is that stamp; or it is no less, and no report of that stamp would stay
abbrev pub IsActivity : Ttls → Option ℤ → Option ℤ → Option ℤ → Type 0
IsActivity ttls retention active there =
    (active ≡ there) ⊎ ((a : ℤ) × (active ≡ Some a) × (later a there ≡ Some a) × (is_old ttls retention a ≡ true))

pub record IsWholeNode (ttls : Ttls) (retention : Option ℤ) (node : Node) : Type 0 where
  pub facts : IfOf node.certname kind.Facts (option_map change_in node.facts)
  pub catalog : IfOf node.certname kind.Catalog (option_map change_in node.catalog)
  pub deactivate : IfOf node.certname kind.Deactivate (option_map change_in node.deactivate)
  pub expiration : IfOf node.certname kind.Expiration (option_map change_in node.expiration)
  pub rise : IsStrictlySortedBy report_cmp node.reports
  pub rise_by_rank : IsStrictlySortedBy by_rank (sorted_by by_rank node.reports)
  pub kept : AreKept ttls retention node.certname (map change_in (sorted_by by_rank node.reports))
  pub active : IsActivity ttls retention node.active (greatest_there node)
  pub some : (is_some node.active ≡ true) ⊎ (if_there node.deactivate ++ if_there node.expiration ≢ [])

pub record IsWholeTable (table : Table) : Type 0 where
  pub nodes_rise : IsStrictlySortedBy node_cmp table.nodes
  pub each : AllByRecursion (IsWholeNode table.ttls table.retention) table.nodes

-- ---- told again

-- a report with nothing but a certname and a stamp
abbrev pub empty_report : List ℕ → ℤ → Change
empty_report certname stamp = Report (record {
  certname = certname;
  environment = None;
  puppet_version = None;
  report_format = None;
  configuration_version = None;
  start_time = None;
  end_time = None;
  stamp = stamp;
  producer = None;
  noop = None;
  status = None;
  transaction_uuid = None;
  resources = [];
  logs = [];
  metrics = [];
})

abbrev pub is_moment : ℤ → Option ℤ → Bool
is_moment a None = false
is_moment a (Some b) = int_eq a b

-- where the activity is the stamp of nothing that is there, an empty report has it
abbrev pub lacking : List ℕ → Option ℤ → Option ℤ → Option Change
lacking certname None there = None
lacking certname (Some a) there = if is_moment a there then None else Some (empty_report certname a)

-- a node is told by what the table has of it, the reports by rank. An empty report has this receipt
abbrev pub told_again : (List ℕ → ℕ) → Node → Told Applied
told_again spare node = record {
  certname = node.certname;
  facts = node.facts;
  catalog = node.catalog;
  expiration = node.expiration;
  deactivate = node.deactivate;
  spare = option_map (applied_as (spare node.certname) None) (lacking node.certname node.active (greatest_there node));
  reports = sorted_by by_rank node.reports;
}

abbrev pub table_again : (List ℕ → ℕ) → Table → Trace
table_again spare table = history_told table.expiry table.retention (map (told_again spare) table.nodes)
