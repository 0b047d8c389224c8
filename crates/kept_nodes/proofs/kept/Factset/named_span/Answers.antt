use Rattle.std.proofs.Common.{arith}
use Rattle.kept_nodes.specs.Runs.{name_rank}
use Rattle.kept_nodes.proofs.RunLaws.{below_at_most}
use Rattle.kept_nodes.proofs.SoughtRows.{fact_span}
use Rattle.kept_nodes.proofs.kept.Factset.named_span.Goals as goal

pub overflow_sub-result : goal.overflow_sub-result
overflow_sub-result c =
    let least = below_at_most (name_rank c.args.name.now) c.args.self.now.change.values in
    omega (arith, least, c.facts_ahead-from.ensures, c.facts_ahead-to.ensures)

pub returns : goal.returns
returns c =
    let least = below_at_most (name_rank c.args.name.now) c.args.self.now.change.values in
    fact_span c.args.self.now.change c.args.name.now _ c.facts_ahead-from.ensures (omega (arith, least, c.facts_ahead-from.ensures, c.facts_ahead-to.ensures))
