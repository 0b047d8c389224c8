use Rattle.std.proofs.Common.{[], Some, Option, sym, subst}
use Rattle.std.specs.Option.{option_map}
use Rattle.checkpoint_spec.specs.table_spec.Rows.{shown, fact_rows, change_of}
use Rattle.kept_nodes.specs.Seen.{facts_seen}
use Rattle.kept_nodes.specs.Spans.{IsSpanOf}
use Rattle.kept_nodes.specs.Wanted.{has_name}
use Rattle.kept_nodes.specs.declared.kept.Factset.{Factset}
use Rattle.kept_nodes.proofs.PlaceLaws.{no_span}
use Rattle.kept_nodes.proofs.node.Node.named_facts.Goals as goal

pub returns-in-Some : goal.returns-in-Some
returns-in-Some c = λ ttls expiry.
    subst (λ (facts : Option Factset). IsSpanOf (has_name (Some c.args.name.now)) (shown fact_rows (change_of (option_map facts_seen facts))) c.named_span.result) (sym c.in-Some.is) c.named_span.ensures

pub returns-in-None : goal.returns-in-None
returns-in-None c = λ ttls expiry.
    subst (λ (facts : Option Factset). IsSpanOf (has_name (Some c.args.name.now)) (shown fact_rows (change_of (option_map facts_seen facts))) c.empty.result) (sym c.in-None.is)
    (no_span (has_name (Some c.args.name.now)) [] c.empty.result tt c.empty.ensures.from c.empty.ensures.count)
