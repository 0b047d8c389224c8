use Rattle.std.proofs.Common.{sym, ◌∙◌}
use Rattle.kept_nodes.proofs.NodeLaws.{catalog_left, catalog_taken}
use Rattle.kept_nodes.proofs.node.Node.put_catalog.Goals as goal

pub returns-else-is_newest-clause-seen : goal.returns-else-is_newest-clause-seen
returns-else-is_newest-clause-seen c ttls retention =
    catalog_left c.args.receipt c.args.received c.args.change c.args.self.now c.wake.new.self ttls retention c.wake.ensures.woken (sym c.is_newest.ensures ∙ c.if-is_newest.false)

pub returns-then-is_newest-clause-seen : goal.returns-then-is_newest-clause-seen
returns-then-is_newest-clause-seen c ttls retention =
    catalog_taken c.args.receipt c.args.received c.args.change c.args.shown c.args.self.now c.wake.new.self ttls retention c.wake.ensures.woken (sym c.is_newest.ensures ∙ c.if-is_newest.true)
