use Rattle.std.proofs.Common.{Some, None, sym, subst}
use Rattle.checkpoint_spec.specs.fleet_rows.declared.row.Entity.TheVariants.{Resources}
use Rattle.checkpoint_spec.specs.table_machine.Rows.{node_rows}
use Rattle.kept_nodes.specs.Seen.{node_seen}
use Rattle.kept_nodes.specs.Spans.{IsSpanOf}
use Rattle.kept_nodes.specs.Wanted.{has_resource, text_in, title_in, type_in}
use Rattle.kept_nodes.proofs.PlaceLaws.{whole_span}
use Rattle.kept_nodes.proofs.SoughtRows.{all_pass}
use Rattle.kept_nodes.proofs.node.Node.resources_span.Goals as goal

pub returns-in-Some : goal.returns-in-Some
returns-in-Some c = λ ttls expiry.
    subst (λ o. IsSpanOf (has_resource (type_in o) (title_in o)) (node_rows Resources ttls expiry (node_seen c.args.self.now)) c.typed_resources.result) (sym c.in-Some.is)
    (subst (λ t. IsSpanOf (has_resource (Some t) (text_in c.in-Some.resource.title)) (node_rows Resources ttls expiry (node_seen c.args.self.now)) c.typed_resources.result) c.as_str.ensures
    (c.typed_resources.ensures ttls expiry))

pub returns-in-None : goal.returns-in-None
returns-in-None c = λ ttls expiry.
    let rows = node_rows Resources ttls expiry (node_seen c.args.self.now) in
    subst (λ o. IsSpanOf (has_resource (type_in o) (title_in o)) rows c.whole.result) (sym c.in-None.is)
    (whole_span (has_resource None None) rows c.whole.result (all_pass rows) c.whole.ensures.from (c.whole.ensures.count ttls expiry))
