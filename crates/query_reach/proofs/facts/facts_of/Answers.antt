use Rattle.query_plan.specs.Made.{step_of}
use Rattle.query_reach.specs.Pins.{step_facts}
use Rattle.query_reach.proofs.StepPins.{more_named}
use Rattle.query_reach.proofs.facts.facts_of.Goals as goal

pub walking-preserved : goal.walking-preserved
walking-preserved c = more_named step_of step_facts c.args.steps.now c.walking.step-index c.step-item.result c.walking-test.true c.step-item.is _ _ _ c.in_ok-push_step.ensures c.walking.invariant
