use Rattle.std.proofs.Common.{[], Some, Option, sym, subst}
use Rattle.std.specs.Option.{option_map}
use Rattle.checkpoint_spec.specs.table_spec.Rows.{shown, resource_rows, change_of}
use Rattle.kept_nodes.specs.Seen.{catalog_seen}
use Rattle.kept_nodes.specs.Spans.{IsSpanOf}
use Rattle.kept_nodes.specs.Wanted.{has_resource, text_in}
use Rattle.kept_nodes.specs.declared.kept.NodeCatalog.{NodeCatalog}
use Rattle.kept_nodes.proofs.PlaceLaws.{no_span}
use Rattle.kept_nodes.proofs.node.Node.typed_resources.Goals as goal

pub returns-in-Some : goal.returns-in-Some
returns-in-Some c = λ ttls expiry.
    subst (λ (catalog : Option NodeCatalog). IsSpanOf (has_resource (Some c.args.rtype.now) (text_in c.args.title)) (shown resource_rows (change_of (option_map catalog_seen catalog))) c.typed_span.result)
    (sym c.in-Some.is) c.typed_span.ensures

pub returns-in-None : goal.returns-in-None
returns-in-None c = λ ttls expiry.
    subst (λ (catalog : Option NodeCatalog). IsSpanOf (has_resource (Some c.args.rtype.now) (text_in c.args.title)) (shown resource_rows (change_of (option_map catalog_seen catalog))) c.empty.result)
    (sym c.in-None.is) (no_span (has_resource (Some c.args.rtype.now) (text_in c.args.title)) [] c.empty.result tt c.empty.ensures.from c.empty.ensures.count)
