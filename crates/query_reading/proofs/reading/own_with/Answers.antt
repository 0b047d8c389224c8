use Rattle.std.proofs.Common.{codes, subst}
use Rattle.query_reach.specs.Demands.{IsDemand}
use Rattle.query_reach.specs.Reach.{demanded}
use Rattle.query_reading.proofs.WantedLaws.{no_certname, any_certname, one_certname}
use Rattle.query_reading.proofs.reading.own_with.Goals as goal

pub returns-in-Different : goal.returns-in-Different
returns-in-Different c = λ e ps h own. no_certname e ps (subst (IsDemand (demanded (codes "certname") ps)) c.in-Different.is h)

pub returns-in-Nothing : goal.returns-in-Nothing
returns-in-Nothing c = λ e ps h own.
    any_certname e ps c.args.own c.own_under.result own (subst (IsDemand (demanded (codes "certname") ps)) c.in-Nothing.is h)
    c.own_under.ensures.certname c.own_under.ensures.name c.own_under.ensures.resource

pub returns-in-Shows : goal.returns-in-Shows
returns-in-Shows c = λ e ps h own.
    one_certname e ps c.args.own c.own_under-in-Shows.result c.in-Shows.text c.as_str.result own (subst (IsDemand (demanded (codes "certname") ps)) c.in-Shows.is h) c.as_str.ensures
    c.own_under-in-Shows.ensures.certname c.own_under-in-Shows.ensures.name c.own_under-in-Shows.ensures.resource
