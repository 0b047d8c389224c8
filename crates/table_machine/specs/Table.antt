-- The data that the tables keep of a history: the newest commands and the kept reports of each node, and no other command.
use Rattle.std.specs.Prelude.{ℕ, ℤ, List, Option, map}
use Rattle.std.specs.declared.cmp.Ordering.{Ordering}
use Rattle.table_spec.specs.text_spec.Compact.{text_cmp}
use Rattle.table_spec.specs.fleet_rows.declared.command.Kind.TheVariants as kind
use Rattle.table_spec.specs.fleet_rows.declared.settings.Ttls.{Ttls}
use Rattle.table_spec.specs.fleet_rows.declared.applied.Applied.{Applied}
use Rattle.table_spec.specs.history_spec.Trace.{Trace}
use Rattle.table_spec.specs.history_spec.Node.{newest, greatest_activity}
use Rattle.table_spec.specs.history_spec.Report.{reports_kept_of}
use Rattle.table_spec.specs.history_spec.Life as life
use Rattle.table_spec.specs.Sorted.{report_cmp}
use Rattle.table_machine.specs.Places.{sorted}

pub record Node : Type 0 where
  pub certname : List ℕ
  pub active : Option ℤ  -- the greatest timestamp of facts, catalogs and reports
  pub facts : Option Applied  -- the newest command of each kind
  pub catalog : Option Applied
  pub deactivate : Option Applied
  pub expiration : Option Applied
  pub reports : List Applied  -- the kept reports, in order

pub record Table : Type 0 where
  pub ttls : Ttls
  pub expiry : Option ℤ  -- the greatest moment of a sweep of expiry
  pub retention : Option ℤ  -- the greatest moment of a sweep of reports
  pub nodes : List Node  -- by certname

-- nodes are compared by certname
abbrev pub node_cmp : Node → Node → Ordering
node_cmp a b = text_cmp a.certname b.certname

-- ---- the table of a history

-- what is kept of a node with these commands
abbrev pub node_with : Ttls → Option ℤ → List ℕ → List Applied → Node
node_with ttls retention certname xs = record {
  certname = certname;
  active = greatest_activity xs;
  facts = newest kind.Facts xs;
  catalog = newest kind.Catalog xs;
  deactivate = newest kind.Deactivate xs;
  expiration = newest kind.Expiration xs;
  reports = sorted report_cmp (reports_kept_of ttls retention xs);
}

-- what is kept of the node with this certname
abbrev pub node_of : Ttls → Trace → List ℕ → Node
node_of ttls history certname = node_with ttls (life.greatest_retention history) certname (life.life ttls certname history)

-- what is kept of the whole history
abbrev pub table_of : Ttls → Trace → Table
table_of ttls history = record {
  ttls = ttls;
  expiry = life.greatest_expiry history;
  retention = life.greatest_retention history;
  nodes = map (node_of ttls history) (life.nodes ttls history);
}
