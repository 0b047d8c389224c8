-- The value of the tables, as contracts see it.
use Rattle.std.specs.Prelude.{ℕ, ℤ, ◌-ℤ◌, int_lt, not, Bool, true, List, Option, Some, None, map}
use Rattle.std.specs.Option.{option_map}
use Rattle.std.specs.Ordering.{is_lt}
use Rattle.std.specs.Coded.{Coded, code_by, coded×, coded_ℕ, coded_ℤ, coded_list, coded_option}
use Rattle.std.proofs.Common.{refl}
use Rattle.checkpoint_spec.specs.fleet_rows.declared.change.Change.TheVariants as change
use Rattle.checkpoint_spec.specs.fleet_rows.declared.settings.Ttls.{Ttls}
use Rattle.checkpoint_spec.specs.history_spec.Node.{days}
use Rattle.checkpoint_spec.specs.fleet_rows.declared.applied.Applied.{Applied}
use Rattle.checkpoint_spec.specs.history_spec.Trace.{applied_as, rank_of}
use Rattle.checkpoint_spec.specs.fleet_rows.declared.command.Kind.{Kind}
use Rattle.checkpoint_spec.specs.fleet_rows.declared.command.Kind.TheVariants as kind
use Rattle.checkpoint_spec.specs.fleet_rows.declared.rank.Rank.{Rank}
use Rattle.checkpoint_spec.specs.fleet_rows.Rank.{rank_cmp}
use Rattle.checkpoint_spec.specs.table_machine.Table as machine
use Rattle.kept_nodes.specs.declared.kept.Factset.{Factset}
use Rattle.kept_nodes.specs.declared.kept.NodeCatalog.{NodeCatalog}
use Rattle.kept_nodes.specs.declared.kept.Deactivation.{Deactivation}
use Rattle.kept_nodes.specs.declared.kept.Expiration.{Expiration}
use Rattle.kept_nodes.specs.declared.kept.Report.{Report}
use Rattle.kept_nodes.specs.declared.node.Node.{Node}

-- ---- a stored command is seen as the command that was applied

abbrev pub facts_seen : Factset → Applied
facts_seen kept = applied_as kept.receipt kept.received (change.Facts kept.change)

abbrev pub catalog_seen : NodeCatalog → Applied
catalog_seen kept = applied_as kept.receipt kept.received (change.Catalog kept.change)

abbrev pub deactivation_seen : Deactivation → Applied
deactivation_seen kept = applied_as kept.receipt kept.received (change.Deactivate kept.change)

abbrev pub expiration_seen : Expiration → Applied
expiration_seen kept = applied_as kept.receipt kept.received (change.Expiration kept.change)

abbrev pub report_seen : Report → Applied
report_seen kept = applied_as kept.receipt kept.received (change.Report kept.change)

abbrev pub node_seen : Node → machine.Node
node_seen node = record {
  certname = node.certname;
  active = node.active;
  facts = option_map facts_seen node.facts;
  catalog = option_map catalog_seen node.catalog;
  deactivate = option_map deactivation_seen node.deactivation;
  expiration = option_map expiration_seen node.expiration;
  reports = map report_seen node.reports.items;
}

-- ---- how the logic encodes a table; no meaning depends on it

abbrev pub Newest : Type 0
Newest = Option Applied × (Option Applied × (Option Applied × Option Applied))

abbrev pub coded_newest : Coded Applied → Coded Newest
coded_newest c = coded× (coded_option c) (coded× (coded_option c) (coded× (coded_option c) (coded_option c)))

abbrev pub coded_node : Coded Applied → Coded machine.Node
coded_node c =
    code_by (List ℕ × (Option ℤ × (Newest × List Applied)))
    (coded× (coded_list coded_ℕ) (coded× (coded_option coded_ℤ) (coded× (coded_newest c) (coded_list c))))
    (λ n. (n.certname, (n.active, ((n.facts, (n.catalog, (n.deactivate, n.expiration))), n.reports))))
    (λ p. record { certname = p.0; active = p.1.0; facts = p.1.1.0.0; catalog = p.1.1.0.1.0; deactivate = p.1.1.0.1.1.0; expiration = p.1.1.0.1.1.1; reports = p.1.1.1 })
    (λ _. refl)

abbrev pub coded_table : Coded Applied → Coded Ttls → Coded machine.Table
coded_table c t =
    code_by (Ttls × (Option ℤ × (Option ℤ × List machine.Node)))
    (coded× t (coded× (coded_option coded_ℤ) (coded× (coded_option coded_ℤ) (coded_list (coded_node c)))))
    (λ x. (x.ttls, (x.expiry, (x.retention, x.nodes))))
    (λ p. record { ttls = p.0; expiry = p.1.0; retention = p.1.1.0; nodes = p.1.1.1 })
    (λ _. refl)

-- ---- look-ups in a node

abbrev pub rank_seen : Option Applied → Option Rank
rank_seen = option_map rank_of

-- the rank of the newest command of a kind; none for reports
abbrev pub newest_rank : Kind → machine.Node → Option Rank
newest_rank kind.Facts node = rank_seen node.facts
newest_rank kind.Catalog node = rank_seen node.catalog
newest_rank kind.Report node = None
newest_rank kind.Deactivate node = rank_seen node.deactivate
newest_rank kind.Expiration node = rank_seen node.expiration

-- no kept command of this kind has a greater rank
abbrev pub is_outranked_by_none : Rank → Option Rank → Bool
is_outranked_by_none rank None = true
is_outranked_by_none rank (Some newest) = not (is_lt (rank_cmp rank newest))

-- a report with this timestamp isn't older than the report lifetime, counted back from the greatest sweep of reports
abbrev pub is_retained_at : Ttls → Option ℤ → ℤ → Bool
is_retained_at ttls None stamp = true
is_retained_at ttls (Some sweep) stamp = not (int_lt stamp (sweep -ℤ days ttls.report_days))

-- sets the node's greatest activity
abbrev pub with_activity : Option ℤ → machine.Node → machine.Node
with_activity active node = record node { active = active }
