use Rattle.std.proofs.Common.{◌∙◌, ◌+◌, ◌<◌, length, None, ap, subst, arith}
use Rattle.std.proofs.lemmas.List.{length-map}
use Rattle.checkpoint_spec.specs.fleet_rows.Defaults.{default_ttls}
use Rattle.checkpoint_spec.specs.table_machine.Rows.{node_rows}
use Rattle.kept_nodes.specs.Counted.{count_of}
use Rattle.kept_nodes.specs.Places.{nodes_in}
use Rattle.kept_nodes.specs.Seen.{node_seen}
use Rattle.kept_nodes.specs.Spans.{IsSpanOf}
use Rattle.kept_nodes.specs.Wanted.{has_own, texts_of}
use Rattle.kept_nodes.specs.declared.node.Node.{Node}
use Rattle.kept_nodes.proofs.FoundNodes.{box_kept}
use Rattle.kept_nodes.proofs.NodePlaces.{box_there}
use Rattle.fleet_tables.proofs.SpanNodes.{absent_span, place_fits, span_at}
use Rattle.fleet_tables.proofs.spans.span_in.Goals as goal

pub span-requires : goal.span-requires
span-requires c =
    let boxes = c.args.nodes.now in
    let within : c.in-Ok.at < length boxes = omega (arith, c.in-Ok.ensures.0, length-map boxes (λ x. x.value)) in
    box_kept boxes c.in-Ok.at c.index-nodes-at.result c.deref.result.now c.requires.kept within c.index-nodes-at.is c.deref.ensures

pub behind-requires : goal.behind-requires
behind-requires c =
    let boxes = c.args.nodes.now in
    let entity = c.args.entity in
    let b = c.index-nodes-at.result in
    let within : c.in-Ok.at < length boxes = omega (arith, c.in-Ok.ensures.0, length-map boxes (λ x. x.value)) in
    let there = box_there boxes c.in-Ok.at b within c.index-nodes-at.is in
    let span = subst (λ (n : Node). IsSpanOf (has_own entity (texts_of c.args.sought.now)) (node_rows entity default_ttls None (node_seen n)) c.span.result) c.deref.ensures (c.span.ensures default_ttls None) in
    let before = c.of.ensures ∙ ap (λ (n : Node). count_of entity n.before) c.deref-in-Ok.ensures in
    let fits = place_fits entity default_ttls None (nodes_in boxes) c.in-Ok.at b.value c.requires.kept c.requires.counted there c.span.result.from c.span.result.count span.1 (c.requires.few entity default_ttls None) in
    omega (arith, before, fits)

pub returns-in-Ok : goal.returns-in-Ok
returns-in-Ok c = λ ttls expiry.
    let boxes = c.args.nodes.now in
    let entity = c.args.entity in
    let b = c.index-nodes-at.result in
    let within : c.in-Ok.at < length boxes = omega (arith, c.in-Ok.ensures.0, length-map boxes (λ x. x.value)) in
    let there = box_there boxes c.in-Ok.at b within c.index-nodes-at.is in
    let span = subst (λ (n : Node). IsSpanOf (has_own entity (texts_of c.args.sought.now)) (node_rows entity ttls expiry (node_seen n)) c.span.result) c.deref.ensures (c.span.ensures ttls expiry) in
    let before = c.of.ensures ∙ ap (λ (n : Node). count_of entity n.before) c.deref-in-Ok.ensures in
    span_at entity ttls expiry (nodes_in boxes) c.in-Ok.at b.value c.requires.kept c.requires.counted there c.args.certname.now (texts_of c.args.sought.now) c.span.result c.behind.result c.requires.order c.requires.own
    (c.in-Ok.ensures.1 b.value there) span (c.behind.ensures.from ∙ ap (λ n. n + c.span.result.from) before) c.behind.ensures.count

pub returns-in-Err : goal.returns-in-Err
returns-in-Err c = λ ttls expiry.
    absent_span c.args.entity ttls expiry (nodes_in c.args.nodes.now) c.in-Err.field-0 c.args.certname.now (texts_of c.args.sought.now) c.empty.result c.in-Err.ensures c.requires.own c.empty.ensures.from c.empty.ensures.count
