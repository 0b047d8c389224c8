use Rattle.std.proofs.Common.{sym, subst}
use Rattle.checkpoint_spec.specs.fleet_rows.declared.row.Entity.{Entity}
use Rattle.checkpoint_spec.specs.table_machine.Rows.{node_rows}
use Rattle.kept_nodes.specs.Seen.{node_seen}
use Rattle.kept_nodes.specs.Spans.{IsSpanOf}
use Rattle.kept_nodes.specs.Wanted.{has_own, texts_of}
use Rattle.kept_nodes.proofs.PlaceLaws.{whole_span}
use Rattle.kept_nodes.proofs.SoughtRows.{each_own}
use Rattle.kept_nodes.proofs.node.Node.span.Goals as goal

pub returns-in-Facts : goal.returns-in-Facts
returns-in-Facts c = λ ttls expiry.
    subst (λ (e : Entity). IsSpanOf (has_own e (texts_of c.args.sought.now)) (node_rows e ttls expiry (node_seen c.args.self.now)) c.facts_span.result) (sym c.in-Facts.is) (c.facts_span.ensures ttls expiry)

pub returns-in-Resources : goal.returns-in-Resources
returns-in-Resources c = λ ttls expiry.
    subst (λ (e : Entity). IsSpanOf (has_own e (texts_of c.args.sought.now)) (node_rows e ttls expiry (node_seen c.args.self.now)) c.resources_span.result) (sym c.in-Resources.is)
    (c.resources_span.ensures ttls expiry)

pub returns-in_default : goal.returns-in_default
returns-in_default c = λ ttls expiry.
    let rows = node_rows c.args.entity ttls expiry (node_seen c.args.self.now) in
    let texts = texts_of c.args.sought.now in
    whole_span (has_own c.args.entity texts) rows c.whole.result (each_own c.args.entity texts c.in_default.not-Facts c.in_default.not-Resources rows) c.whole.ensures.from (c.whole.ensures.count ttls expiry)
