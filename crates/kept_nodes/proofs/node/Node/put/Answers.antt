use Rattle.std.proofs.Common.{◌≡◌, sym, subst}
use Rattle.checkpoint_spec.specs.fleet_rows.declared.change.Change.{Change}
use Rattle.checkpoint_spec.specs.history_spec.Trace.{applied_as}
use Rattle.checkpoint_spec.specs.table_machine.Steps.{with_applied}
use Rattle.kept_nodes.specs.Seen.{node_seen}
use Rattle.kept_nodes.proofs.node.Node.put.Goals as goal

pub returns-in-Facts-Facts-clause-seen : goal.returns-in-Facts-Facts-clause-seen
returns-in-Facts-Facts-clause-seen c =
    subst (λ (x : Change). node_seen c.put_facts.new.self ≡ with_applied c.args.ttls.now c.args.retention.now (applied_as c.args.receipt c.args.received x) (node_seen c.args.self.now)) (sym c.in-Facts-Facts.is-0)
    (c.put_facts.ensures.seen c.args.ttls.now c.args.retention.now)

pub returns-in-Catalog-Catalog-clause-seen : goal.returns-in-Catalog-Catalog-clause-seen
returns-in-Catalog-Catalog-clause-seen c =
    subst (λ (x : Change). node_seen c.put_catalog.new.self ≡ with_applied c.args.ttls.now c.args.retention.now (applied_as c.args.receipt c.args.received x) (node_seen c.args.self.now)) (sym c.in-Catalog-Catalog.is-0)
    (c.put_catalog.ensures.seen c.args.ttls.now c.args.retention.now)

pub returns-in-Deactivate-default-clause-seen : goal.returns-in-Deactivate-default-clause-seen
returns-in-Deactivate-default-clause-seen c =
    subst (λ (x : Change). node_seen c.put_deactivation.new.self ≡ with_applied c.args.ttls.now c.args.retention.now (applied_as c.args.receipt c.args.received x) (node_seen c.args.self.now)) (sym c.in-Deactivate-default.is-0)
    (c.put_deactivation.ensures.seen c.args.ttls.now c.args.retention.now)

pub returns-in-Expiration-default-clause-seen : goal.returns-in-Expiration-default-clause-seen
returns-in-Expiration-default-clause-seen c =
    subst (λ (x : Change). node_seen c.put_expiration.new.self ≡ with_applied c.args.ttls.now c.args.retention.now (applied_as c.args.receipt c.args.received x) (node_seen c.args.self.now)) (sym c.in-Expiration-default.is-0)
    (c.put_expiration.ensures.seen c.args.ttls.now c.args.retention.now)
