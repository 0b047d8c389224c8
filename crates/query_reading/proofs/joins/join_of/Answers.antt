use Rattle.query_reading.proofs.JoinLaws.{one_more}
use Rattle.query_reading.proofs.joins.join_of.Goals as goal

pub walking-preserved : goal.walking-preserved
walking-preserved c = one_more c.args.steps.now c.walking.step-index c.step-item.result c.walking-test.true c.step-item.is _ _ _ c.in_ok-join_step.ensures c.walking.invariant
