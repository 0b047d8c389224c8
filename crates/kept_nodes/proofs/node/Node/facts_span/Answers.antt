use Rattle.std.proofs.Common.{◌∙◌, Some, None, sym, ap, subst}
use Rattle.checkpoint_spec.specs.fleet_rows.declared.row.Entity.TheVariants.{Facts}
use Rattle.checkpoint_spec.specs.table_machine.Rows.{node_rows}
use Rattle.kept_nodes.specs.Seen.{node_seen}
use Rattle.kept_nodes.specs.Spans.{IsSpanOf}
use Rattle.kept_nodes.specs.Wanted.{has_name, text_in}
use Rattle.kept_nodes.proofs.PlaceLaws.{whole_span}
use Rattle.kept_nodes.proofs.SoughtRows.{all_pass}
use Rattle.kept_nodes.proofs.node.Node.facts_span.Goals as goal

pub returns-in-Some : goal.returns-in-Some
returns-in-Some c = λ ttls expiry.
    subst (λ o. IsSpanOf (has_name o) (node_rows Facts ttls expiry (node_seen c.args.self.now)) c.named_facts.result) (ap Some c.as_str.ensures ∙ sym (ap text_in c.in-Some.is)) (c.named_facts.ensures ttls expiry)

pub returns-in-None : goal.returns-in-None
returns-in-None c = λ ttls expiry.
    let rows = node_rows Facts ttls expiry (node_seen c.args.self.now) in
    subst (λ o. IsSpanOf (has_name o) rows c.whole.result) (sym (ap text_in c.in-None.is)) (whole_span (has_name None) rows c.whole.result (all_pass rows) c.whole.ensures.from (c.whole.ensures.count ttls expiry))
