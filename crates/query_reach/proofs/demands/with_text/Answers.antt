use Rattle.std.proofs.Common.{subst}
use Rattle.query_reach.specs.Demands.{IsDemand}
use Rattle.query_reach.proofs.DemandLaws.{first_text, still_different}
use Rattle.query_reach.proofs.demands.with_text.Goals as goal

pub returns-in-Nothing : goal.returns-in-Nothing
returns-in-Nothing c = λ texts h. first_text texts c.args.text.now (subst (IsDemand texts) c.in-Nothing.is h)

pub returns-in-Different : goal.returns-in-Different
returns-in-Different c = λ texts h. still_different texts c.args.text.now (subst (IsDemand texts) c.in-Different.is h)

pub returns-in-Shows : goal.returns-in-Shows
returns-in-Shows c = λ texts h. c.both_texts.ensures texts (subst (IsDemand texts) c.in-Shows.is h)
