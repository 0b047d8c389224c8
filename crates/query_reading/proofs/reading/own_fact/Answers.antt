use Rattle.std.proofs.Common.{codes, subst}
use Rattle.query_reach.specs.Demands.{IsDemand}
use Rattle.query_reach.specs.Reach.{demanded}
use Rattle.query_reading.proofs.WantedLaws.{no_fact, any_fact, one_fact}
use Rattle.query_reading.proofs.reading.own_fact.Goals as goal

pub returns-in-Different : goal.returns-in-Different
returns-in-Different c = λ ps h. no_fact ps (subst (IsDemand (demanded (codes "name") ps)) c.in-Different.is h)

pub returns-in-Nothing : goal.returns-in-Nothing
returns-in-Nothing c = λ ps h. any_fact ps c.asked_for.result (subst (IsDemand (demanded (codes "name") ps)) c.in-Nothing.is h) c.asked_for.ensures.name

pub returns-in-Shows : goal.returns-in-Shows
returns-in-Shows c = λ ps h. one_fact ps c.asked_for-in-Shows.result c.in-Shows.name (subst (IsDemand (demanded (codes "name") ps)) c.in-Shows.is h) c.asked_for-in-Shows.ensures.name
