use Rattle.checkpoint_spec.specs.history_spec.Node.{newest}
use Rattle.checkpoint_spec.specs.fleet_rows.declared.command.Kind.TheVariants as kind
use Rattle.row_cells.specs.Nodes.{facts_of, catalog_of}
use Rattle.checkpoint_spec.specs.table_spec.Rows.{change_of}
use Rattle.checkpoint_spec.specs.table_machine.Node.{node_deactivated, node_expired}
use Rattle.kept_nodes.specs.Seen.{node_seen}
use Rattle.kept_nodes.proofs.RowPlaces.{own_row_is}
use Rattle.kept_nodes.proofs.node.Node.row_with.Goals as goal

pub returns : goal.returns
returns c =
    let seen = node_seen c.args.self.now in
    own_row_is c.node_row.result (facts_of c.newest_facts.result) (catalog_of c.newest_catalog.result)
    (change_of seen.facts) (change_of seen.catalog) (change_of (newest kind.Report seen.reports)) c.args.report.now seen.certname c.deactivated.result c.expired.result (node_deactivated seen) (node_expired c.args.ttls.now c.args.expiry.now seen)
    c.newest_facts.ensures c.newest_catalog.ensures c.requires.report c.deactivated.ensures c.expired.ensures.value c.node_row.ensures
