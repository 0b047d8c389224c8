-- A history in which the nodes are told one after the other, each by its newest commands and its reports.
use Rattle.std.specs.Prelude.{ℕ, ℤ, List, [], ◌∷◌, ◌++◌, true, false, Option, Some, None, map, flat_map}
use Rattle.std.specs.Option.{option_map}
use Rattle.std.specs.declared.cmp.Ordering.{Ordering}
use Rattle.checkpoint_spec.specs.text_spec.Compact.{text_cmp}
use Rattle.checkpoint_spec.specs.fleet_rows.declared.applied.Applied.{Applied}
use Rattle.checkpoint_spec.specs.fleet_rows.declared.change.Change.{Change}
use Rattle.checkpoint_spec.specs.fleet_rows.declared.settings.Kinds.{Kinds}
use Rattle.checkpoint_spec.specs.fleet_rows.declared.settings.Ttls.{Ttls}
use Rattle.checkpoint_spec.specs.history_spec.Node.{greatest_activity}
use Rattle.checkpoint_spec.specs.history_spec.Trace.{Trace, swept}
use Rattle.checkpoint_spec.specs.table_spec.Sorted.{report_cmp}
use Rattle.checkpoint_spec.specs.table_machine.Places.{sorted}
use Rattle.checkpoint_spec.specs.table_machine.Table.{Node, Table}
use Rattle.checkpoint_spec.specs.Histories.{with_events}

-- ---- one node

-- what is told of a node: of each kind but reports one command or none, a report that is too old to stay, and the reports. The
-- old report is there where no other command has the stamp of the node's greatest activity
pub record Told (A : Type 0) : Type 0 where
  pub certname : List ℕ
  pub facts : Option A
  pub catalog : Option A
  pub expiration : Option A
  pub deactivate : Option A
  pub spare : Option A
  pub reports : List A

abbrev pub if_there : {A : Type 0} → Option A → List A
if_there None = []
if_there (Some x) = x ∷ []

-- all that is told, in its order
abbrev pub all_told : {A : Type 0} → Told A → List A
all_told told =
    if_there told.facts ++ (if_there told.catalog ++ (if_there told.expiration ++ (if_there told.deactivate ++ (if_there told.spare ++ told.reports))))

-- the same of each command
abbrev pub told_map : {A B : Type 0} → (A → B) → Told A → Told B
told_map f told = record {
  certname = told.certname;
  facts = option_map f told.facts;
  catalog = option_map f told.catalog;
  expiration = option_map f told.expiration;
  deactivate = option_map f told.deactivate;
  spare = option_map f told.spare;
  reports = map f told.reports;
}

abbrev pub change_in : Applied → Change
change_in x = x.change

-- the changes that are told
abbrev pub changes_told : Told Applied → Told Change
changes_told told = told_map change_in told

-- the node of a table that they make
abbrev pub node_told : Told Applied → Node
node_told told = record {
  certname = told.certname;
  active = greatest_activity (all_told told);
  facts = told.facts;
  catalog = told.catalog;
  deactivate = told.deactivate;
  expiration = told.expiration;
  reports = sorted report_cmp told.reports;
}

-- ---- many nodes

abbrev pub told_cmp : Told Applied → Told Applied → Ordering
told_cmp a b = text_cmp a.certname b.certname

abbrev pub expire_alone : Kinds
expire_alone = record { expire = true; purge = false; reports = false }

abbrev pub reports_alone : Kinds
reports_alone = record { expire = false; purge = false; reports = true }

-- a sweep at the moment, if there is one
abbrev pub swept_if : Kinds → Option ℤ → Trace → Trace
swept_if kinds None history = history
swept_if kinds (Some m) history = swept kinds m ∷ history

-- all nodes' commands, then the sweep of expiry and the sweep of reports
abbrev pub history_told : Option ℤ → Option ℤ → List (Told Applied) → Trace
history_told expiry retention tolds = swept_if reports_alone retention (swept_if expire_alone expiry (with_events (flat_map all_told tolds) []))

abbrev pub table_told : Ttls → Option ℤ → Option ℤ → List (Told Applied) → Table
table_told ttls expiry retention tolds = record { ttls = ttls; expiry = expiry; retention = retention; nodes = map node_told tolds }
