use Rattle.spool_maker.proofs.Heads.{catalog_head, report_head, facts_head}
use Rattle.spool_maker.proofs.item.head.Goals as goal

pub returns-then-turn-eq2 : goal.returns-then-turn-eq2
returns-then-turn-eq2 c = catalog_head c.args.i c.if-turn-eq2.true

pub returns-then-turn-eq3 : goal.returns-then-turn-eq3
returns-then-turn-eq3 c = report_head c.args.i c.if-turn-eq3.true

pub returns-else-turn-eq3 : goal.returns-else-turn-eq3
returns-else-turn-eq3 c = facts_head c.args.i c.if-turn-eq2.false c.if-turn-eq3.false
