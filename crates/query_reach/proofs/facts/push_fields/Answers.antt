use Rattle.query_reach.specs.Reach.{field_facts}
use Rattle.query_reach.proofs.StepPins.{more_facts}
use Rattle.query_reach.proofs.facts.push_fields.Goals as goal

pub walking-preserved : goal.walking-preserved
walking-preserved c = more_facts field_facts c.args.fields.now c.walking.field-index c.field-item.result c.walking-test.true c.field-item.is _ _ _ c.in_ok-push_field.ensures c.walking.invariant
