use Rattle.std.proofs.Common.{◌∙◌, sym, subst, ap, Some}
use Rattle.routes_spec.specs.Queries.{IsToldOn}
use Rattle.http_routes.specs.Told.{Tells}
use Rattle.http_routes.proofs.told.told_on.Goals as goal

pub returns-in-Some : goal.returns-in-Some
returns-in-Some c = subst (λ q. Tells c.told_of_text.result (IsToldOn c.args.route q)) (ap Some c.as_slice.ensures ∙ sym c.in-Some.is) c.told_of_text.ensures

pub returns-in-None : goal.returns-in-None
returns-in-None c = subst (λ q. Tells c.told_of_none.result (IsToldOn c.args.route q)) (sym c.in-None.is) c.told_of_none.ensures
