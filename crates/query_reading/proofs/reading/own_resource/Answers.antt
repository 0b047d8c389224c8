use Rattle.std.proofs.Common.{codes, subst}
use Rattle.query_reach.specs.Demands.{IsDemand}
use Rattle.query_reach.specs.Reach.{demanded}
use Rattle.query_reading.proofs.WantedLaws.{no_type, any_resource}
use Rattle.query_reading.proofs.reading.own_resource.Goals as goal

pub returns-in-Different : goal.returns-in-Different
returns-in-Different c = λ ps h k. no_type ps (subst (IsDemand (demanded (codes "type") ps)) c.in-Different.is h)

pub returns-in-Nothing : goal.returns-in-Nothing
returns-in-Nothing c = λ ps h k. any_resource ps c.asked_for.result (subst (IsDemand (demanded (codes "type") ps)) c.in-Nothing.is h) c.asked_for.ensures.resource

pub returns-in-Shows : goal.returns-in-Shows
returns-in-Shows c = λ ps h k. c.own_titled.ensures ps (subst (IsDemand (demanded (codes "type") ps)) c.in-Shows.is h) k
