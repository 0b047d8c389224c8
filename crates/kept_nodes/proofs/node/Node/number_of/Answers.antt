use Rattle.std.proofs.Common.{◌∙◌, ap}
use Rattle.kept_nodes.specs.Counted.{count_of}
use Rattle.kept_nodes.proofs.RowCounts.{node_count}
use Rattle.kept_nodes.proofs.node.Node.number_of.Goals as goal

pub returns : goal.returns
returns c = λ ttls expiry. c.of.ensures ∙ ap (count_of c.args.entity) c.counts.ensures ∙ node_count ttls expiry c.args.entity c.args.self.now c.requires
