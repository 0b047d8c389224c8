use Rattle.kept_nodes.proofs.PackedLaws.{held_is, held_seen}
use Rattle.kept_nodes.proofs.kept.HeldReport.keeping.Goals as goal

pub returns-clause-kept : goal.returns-clause-kept
returns-clause-kept c =
    held_is c.holding.result c.args.receipt c.args.received c.of.result c.args.change c.args.digest c.holding.ensures c.of.ensures c.requires.printable c.requires.digest c.requires.stamp

pub returns-clause-seen : goal.returns-clause-seen
returns-clause-seen c = held_seen c.holding.result c.args.receipt c.args.received c.of.result c.args.change c.args.digest c.holding.ensures c.of.ensures
