use Rattle.std.proofs.Common.{arith}
use Rattle.kept_nodes.specs.Runs.{resource_rank}
use Rattle.kept_nodes.specs.Wanted.{text_in}
use Rattle.kept_nodes.proofs.RunLaws.{below_at_most}
use Rattle.kept_nodes.proofs.SoughtRows.{resource_span}
use Rattle.kept_nodes.proofs.kept.NodeCatalog.typed_span.Goals as goal

pub overflow_sub-result : goal.overflow_sub-result
overflow_sub-result c =
    let least = below_at_most (resource_rank c.args.rtype.now (text_in c.args.title)) c.args.self.now.change.resources in
    omega (arith, least, c.resources_ahead-from.ensures, c.resources_ahead-to.ensures)

pub returns : goal.returns
returns c =
    let least = below_at_most (resource_rank c.args.rtype.now (text_in c.args.title)) c.args.self.now.change.resources in
    resource_span c.args.self.now.change c.args.rtype.now (text_in c.args.title) _ c.resources_ahead-from.ensures (omega (arith, least, c.resources_ahead-from.ensures, c.resources_ahead-to.ensures))
