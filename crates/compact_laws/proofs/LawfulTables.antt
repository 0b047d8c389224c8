-- Tables stay such that their checkpoint has a spelling, whatever commands, marks and sweeps come.
use Rattle.std.proofs.Common.{ℕ, ℤ, ◌-◌, nat_lt, int_lt, length, List, [], ◌∷◌, ◌++◌, map, Bool, true, false, ◌&&◌, not, cond, Option, Some, None}
use Rattle.std.specs.List.{AllByRecursion, filter, flat_map, list_any}
use Rattle.std.specs.Ordering.{match_ordering, is_lt}
use Rattle.std.specs.declared.cmp.Ordering.{Ordering}
use Rattle.std.specs.declared.cmp.Ordering.TheVariants.{Less, Equal, Greater}
use Rattle.core_laws.proofs.of_checkpoint_spec.of_plain_laws.Booleans.{either}
use Rattle.core_laws.proofs.of_checkpoint_spec.of_plain_laws.Members.{All-Among, All-from_Among}
use Rattle.core_laws.proofs.of_checkpoint_spec.of_table_laws.SortedLists.{among-from_sorted_by}
use Rattle.core_laws.specs.checkpoint_spec.fleet_rows.Change.{change_certname, change_stamp}
use Rattle.core_laws.specs.checkpoint_spec.fleet_rows.Rank.{rank_cmp}
use Rattle.core_laws.specs.checkpoint_spec.fleet_rows.declared.applied.Applied.{Applied}
use Rattle.core_laws.specs.checkpoint_spec.fleet_rows.declared.change.Change.{Change}
use Rattle.core_laws.specs.checkpoint_spec.fleet_rows.declared.change.Change.TheVariants as change
use Rattle.core_laws.specs.checkpoint_spec.fleet_rows.declared.command.Kind.{Kind}
use Rattle.core_laws.specs.checkpoint_spec.fleet_rows.declared.command.Kind.TheVariants as kind
use Rattle.core_laws.specs.checkpoint_spec.fleet_rows.declared.settings.Ttls.{Ttls}
use Rattle.core_laws.specs.checkpoint_spec.history_spec.Lawful.{HasStamp, IfMoment, IsCertname, IsChange}
use Rattle.core_laws.specs.checkpoint_spec.history_spec.Node.{later, greater, is_activity}
use Rattle.core_laws.specs.checkpoint_spec.history_spec.Report.{is_retained, is_below}
use Rattle.core_laws.specs.checkpoint_spec.history_spec.Trace.{is_kind, rank_of}
use Rattle.core_laws.specs.checkpoint_spec.table_spec.Sorted.{report_cmp, sorted_by}
use Rattle.core_laws.specs.checkpoint_spec.table_machine.Node.{node_purged, stamp_of_newest}
use Rattle.core_laws.specs.checkpoint_spec.table_machine.Places as places
use Rattle.core_laws.specs.checkpoint_spec.table_machine.Steps.{empty_node, of_greater_rank, put_report, without_least, limited, with_report, with_newest, with_applied, stands, with_node, expire, purge, with_retained, retain, step_if}
use Rattle.core_laws.specs.checkpoint_spec.table_machine.Table.{Node, Table}
use Rattle.core_laws.specs.checkpoint_spec.Lists.{by_rank, if_kept, mark_of, commands_of}
use Rattle.core_laws.specs.core_machine.record_spec.declared.store.StoreRecord.{StoreRecord}
use Rattle.core_laws.specs.core_machine.record_spec.declared.store.StoreRecord.TheVariants as store
use Rattle.core_laws.specs.core_machine.record_spec.Store.{IsStoreRecord}
use Rattle.core_laws.specs.TableReplay.{table_by}
use Rattle.compact_laws.specs.Lawful.{IsLawfulCommand, IfLawful, IsLawfulNode, IsLawfulTable, IsLawfulMark, EmptyTablesAreLawful, CommandsKeepTablesLawful, SweepsKeepTablesLawful, RecordsLeadToLawfulTables, LawfulTablesAreWritable}

-- ---- what each change has

pub certname_of : (c : Change) → IsChange c → IsCertname (change_certname c)
certname_of (change.Facts c) h = h.certname
certname_of (change.Catalog c) h = h.certname
certname_of (change.Report c) h = h.certname
certname_of (change.Deactivate c) h = h.certname
certname_of (change.Expiration c) h = h.certname

pub stamp_of : (c : Change) → IsChange c → HasStamp (change_stamp c)
stamp_of (change.Facts c) h = h.stamp
stamp_of (change.Catalog c) h = h.stamp
stamp_of (change.Report c) h = h.stamp
stamp_of (change.Deactivate c) h = h.stamp
stamp_of (change.Expiration c) h = h.stamp

-- ---- lists

module _ {X : Type 0} (P : X → Type 0) where
  pub all_append : (xs ys : List X) → AllByRecursion P xs → AllByRecursion P ys → AllByRecursion P (xs ++ ys)
  all_append [] ys h k = k
  all_append (x ∷ xs) ys h k = (h.0, all_append xs ys h.1 k)

  all_filter : (test : X → Bool) (xs : List X) → AllByRecursion P xs → AllByRecursion P (filter test xs)
  all_filter test [] h = tt
  all_filter test (x ∷ xs) h = kept (test x) h.0 (all_filter test xs h.1)
    where
      kept : (b : Bool) → P x → AllByRecursion P (filter test xs) → AllByRecursion P (cond b (x ∷ filter test xs) (filter test xs))
      kept true is rest = (is, rest)
      kept false is rest = rest

  all_mapped : (f : X → X) → ((x : X) → P x → P (f x)) → (xs : List X) → AllByRecursion P xs → AllByRecursion P (map f xs)
  all_mapped f keeps [] h = tt
  all_mapped f keeps (x ∷ xs) h = (keeps x h.0, all_mapped f keeps xs h.1)

  module _ (place : X → Ordering) (new : X) (put_in : X → X) (is : P new) (keeps : (x : X) → P x → P (put_in x)) where
    at_place : (o : Ordering) (y : X) (ys : List X) → P y → AllByRecursion P ys → AllByRecursion P (places.put place new put_in ys)
        → AllByRecursion P (match_ordering o (new ∷ y ∷ ys) (put_in y ∷ ys) (y ∷ places.put place new put_in ys))
    at_place Less y ys h rest put = (is, (h, rest))
    at_place Equal y ys h rest put = (keeps y h, rest)
    at_place Greater y ys h rest put = (h, put)

    all_put : (ys : List X) → AllByRecursion P ys → AllByRecursion P (places.put place new put_in ys)
    all_put [] h = (is, tt)
    all_put (y ∷ ys) h = at_place (place y) y ys h.0 h.1 (all_put ys h.1)

-- ---- one command comes to a node

later_moment : (m : ℤ) (o : Option ℤ) → HasStamp m → IfMoment o → IfMoment (later m o)
later_moment m None h k = h
later_moment m (Some n) h k = either HasStamp (int_lt m n) n m k h

module _ (x : Applied) (is : IsLawfulCommand x) where
  newer : (k : Kind) (o : Option Applied) → IfLawful o → IfLawful (with_newest k x o)
  newer k o h = either IfLawful (is_kind k x) (greater x o) o (greatest o h) h
    where
      greatest : (p : Option Applied) → IfLawful p → IfLawful (greater x p)
      greatest None g = is
      greatest (Some y) g = either IsLawfulCommand (is_lt (rank_cmp (rank_of x) (rank_of y))) y x g is

  all_but_least : (ys : List Applied) → AllByRecursion IsLawfulCommand ys → AllByRecursion IsLawfulCommand (without_least ys)
  all_but_least [] h = tt
  all_but_least (y ∷ ys) h = either (AllByRecursion IsLawfulCommand) (list_any (λ z. is_below z y) ys) (y ∷ without_least ys) ys (h.0, all_but_least ys h.1) h.1

  at_most : (limit : Option ℕ) (ys : List Applied) → AllByRecursion IsLawfulCommand ys → AllByRecursion IsLawfulCommand (limited limit ys)
  at_most None ys h = h
  at_most (Some count) ys h = either (AllByRecursion IsLawfulCommand) (nat_lt count (length ys)) (without_least ys) ys (all_but_least ys h) h

  one_report : (ys : List Applied) → AllByRecursion IsLawfulCommand ys → AllByRecursion IsLawfulCommand (put_report x ys)
  one_report ys h = all_put IsLawfulCommand (report_cmp x) x (of_greater_rank x) is (λ y k. either IsLawfulCommand (is_below x y) y x k is) ys h

  reported : (ttls : Ttls) (retention : Option ℤ) (ys : List Applied) → AllByRecursion IsLawfulCommand ys → AllByRecursion IsLawfulCommand (with_report ttls retention x ys)
  reported ttls retention ys h =
      either (AllByRecursion IsLawfulCommand) (is_kind kind.Report x && is_retained ttls retention x) (limited ttls.report_count (put_report x ys)) ys
      (at_most ttls.report_count (put_report x ys) (one_report ys h)) h

  one_command : (ttls : Ttls) (retention : Option ℤ) (node : Node) → IsLawfulNode node → IsLawfulNode (with_applied ttls retention x node)
  one_command ttls retention node h = record {
    certname = h.certname;
    active = either IfMoment (is_activity x) (later (change_stamp x.change) node.active) node.active (later_moment (change_stamp x.change) node.active (stamp_of x.change is.1) h.active) h.active;
    facts = newer kind.Facts node.facts h.facts;
    catalog = newer kind.Catalog node.catalog h.catalog;
    deactivate = newer kind.Deactivate node.deactivate h.deactivate;
    expiration = newer kind.Expiration node.expiration h.expiration;
    reports = reported ttls retention node.reports h.reports;
  }

-- ---- tables

of_no_command : (certname : List ℕ) → IsCertname certname → IsLawfulNode (empty_node certname)
of_no_command certname is = record { certname = is; active = tt; facts = tt; catalog = tt; deactivate = tt; expiration = tt; reports = tt }

one_node : (certname : List ℕ) (put_in : Node → Node) → IsCertname certname → ((node : Node) → IsLawfulNode node → IsLawfulNode (put_in node))
    → (nodes : List Node) → AllByRecursion IsLawfulNode nodes → AllByRecursion IsLawfulNode (with_node certname put_in nodes)
one_node certname put_in is keeps nodes h =
    all_put IsLawfulNode (stands certname) (put_in (empty_node certname)) put_in (keeps (empty_node certname) (of_no_command certname is)) keeps nodes h

pub empty_tables_are_lawful : EmptyTablesAreLawful
empty_tables_are_lawful ttls = record { expiry = tt; retention = tt; nodes = tt }

pub commands_keep_tables_lawful : CommandsKeepTablesLawful
commands_keep_tables_lawful x table is h = record {
  expiry = h.expiry;
  retention = h.retention;
  nodes = one_node (change_certname x.change) (with_applied table.ttls table.retention x) (certname_of x.change is.1) (one_command x is table.ttls table.retention) table.nodes h.nodes;
}

-- ---- sweeps

expired : (m : ℤ) (table : Table) → HasStamp m → IsLawfulTable table → IsLawfulTable (expire m table)
expired m table is h = record { expiry = later_moment m table.expiry is h.expiry; retention = h.retention; nodes = h.nodes }

purged : (m : ℤ) (table : Table) → IsLawfulTable table → IsLawfulTable (purge m table)
purged m table h = record {
  expiry = h.expiry;
  retention = h.retention;
  nodes = all_filter IsLawfulNode (λ node. not (node_purged table.ttls m table.expiry node)) table.nodes h.nodes;
}

retained : (m : ℤ) (table : Table) → HasStamp m → IsLawfulTable table → IsLawfulTable (retain m table)
retained m table is h = record {
  expiry = h.expiry;
  retention = later_moment m table.retention is h.retention;
  nodes = all_mapped IsLawfulNode (with_retained table.ttls (later m table.retention)) keeps table.nodes h.nodes;
}
  where
    keeps : (node : Node) → IsLawfulNode node → IsLawfulNode (with_retained table.ttls (later m table.retention) node)
    keeps node k = record {
      certname = k.certname;
      active = k.active;
      facts = k.facts;
      catalog = k.catalog;
      deactivate = k.deactivate;
      expiration = k.expiration;
      reports = all_filter IsLawfulCommand (is_retained table.ttls (later m table.retention)) node.reports k.reports;
    }

stepped : (b : Bool) (step : Table → Table) (table : Table) → (IsLawfulTable table → IsLawfulTable (step table)) → IsLawfulTable table → IsLawfulTable (step_if b step table)
stepped true step table keeps h = keeps h
stepped false step table keeps h = h

pub sweeps_keep_tables_lawful : SweepsKeepTablesLawful
sweeps_keep_tables_lawful kinds m table is h =
    let first = step_if kinds.expire (expire m) table in
    let second = step_if kinds.purge (purge m) first in
    stepped kinds.reports (retain m) second (retained m second is)
    (stepped kinds.purge (purge m) first (purged m first)
    (stepped kinds.expire (expire m) table (expired m table is) h))

-- ---- records

one_record : (x : StoreRecord) (table : Table) → IsStoreRecord x → IsLawfulTable table → IsLawfulTable (table_by x table)
one_record (store.Settings n p r) table is h = h
one_record (store.Base e r taken) table is h = record { expiry = is.0; retention = is.1; nodes = h.nodes }
one_record (store.Marks m) table is h = record {
  expiry = h.expiry;
  retention = h.retention;
  nodes = one_node m.certname (λ node. record node { active = m.active }) is.0 knows table.nodes h.nodes;
}
  where
    knows : (node : Node) → IsLawfulNode node → IsLawfulNode (record node { active = m.active })
    knows node k = record {
      certname = k.certname;
      active = is.1;
      facts = k.facts;
      catalog = k.catalog;
      deactivate = k.deactivate;
      expiration = k.expiration;
      reports = k.reports;
    }
one_record (store.Applied r c) table is h = commands_keep_tables_lawful (record { receipt = r; received = None; change = c }) table (tt, is.1) h
one_record (store.Swept kinds m) table is h = sweeps_keep_tables_lawful kinds m table is h
one_record (store.Received r t c) table is h = commands_keep_tables_lawful (record { receipt = r; received = t; change = c }) table (is.1, is.2) h
one_record (store.Limits n p r k) table is h = h

pub records_lead_to_lawful_tables : RecordsLeadToLawfulTables
records_lead_to_lawful_tables [] table is h = h
records_lead_to_lawful_tables (x ∷ xs) table is h = records_lead_to_lawful_tables xs (table_by x table) is.1 (one_record x table is.0 h)

-- ---- the list of a table

of_one : (o : Option Applied) → IfLawful o → AllByRecursion IsLawfulCommand (if_kept o)
of_one None h = tt
of_one (Some x) h = (h, tt)

deactivation_stamp : (o : Option Applied) → IfLawful o → IfMoment (stamp_of_newest o)
deactivation_stamp None h = tt
deactivation_stamp (Some x) h = stamp_of x.change h.1

each_mark : (nodes : List Node) → AllByRecursion IsLawfulNode nodes → AllByRecursion IsLawfulMark (map mark_of nodes)
each_mark [] h = tt
each_mark (node ∷ nodes) h = ((h.0.certname, h.0.active, deactivation_stamp node.deactivate h.0.deactivate), each_mark nodes h.1)

of_node : (node : Node) → IsLawfulNode node → AllByRecursion IsLawfulCommand (commands_of node)
of_node node h =
    all_append IsLawfulCommand (if_kept node.facts) _ (of_one node.facts h.facts)
    (all_append IsLawfulCommand (if_kept node.catalog) _ (of_one node.catalog h.catalog)
    (all_append IsLawfulCommand (if_kept node.deactivate) _ (of_one node.deactivate h.deactivate)
    (all_append IsLawfulCommand (if_kept node.expiration) (sorted_by by_rank node.reports) (of_one node.expiration h.expiration)
    (All-from_Among IsLawfulCommand (sorted_by by_rank node.reports) (λ x a. All-Among IsLawfulCommand node.reports x h.reports (among-from_sorted_by by_rank x node.reports a))))))

each_command : (nodes : List Node) → AllByRecursion IsLawfulNode nodes → AllByRecursion IsLawfulCommand (flat_map commands_of nodes)
each_command [] h = tt
each_command (node ∷ nodes) h = all_append IsLawfulCommand (commands_of node) (flat_map commands_of nodes) (of_node node h.0) (each_command nodes h.1)

pub lawful_tables_are_writable : LawfulTablesAreWritable
lawful_tables_are_writable table h = record {
  expire = h.expiry;
  retain = h.retention;
  marks = each_mark table.nodes h.nodes;
  applied = each_command table.nodes h.nodes;
}
