use Rattle.std.proofs.Common.{codes, refl, subst}
use Rattle.query_reach.specs.Demands.{IsDemand}
use Rattle.query_reach.specs.Reach.{demanded}
use Rattle.query_reading.proofs.WantedLaws.{no_title, typed_resource, titled_resource}
use Rattle.query_reading.proofs.reading.own_titled.Goals as goal

pub returns-in-Different : goal.returns-in-Different
returns-in-Different c = λ ps only h. no_title ps c.args.rtype.now only (subst (IsDemand (demanded (codes "title") ps)) c.in-Different.is h)

pub returns-in-Nothing : goal.returns-in-Nothing
returns-in-Nothing c = λ ps only h. typed_resource ps c.asked_for.result c.args.rtype _ only (subst (IsDemand (demanded (codes "title") ps)) c.in-Nothing.is h) c.asked_for.ensures.resource refl refl

pub returns-in-Shows : goal.returns-in-Shows
returns-in-Shows c = λ ps only h.
    titled_resource ps c.asked_for-in-Shows.result c.args.rtype c.in-Shows.title _ only (subst (IsDemand (demanded (codes "title") ps)) c.in-Shows.is h) c.asked_for-in-Shows.ensures.resource refl refl
