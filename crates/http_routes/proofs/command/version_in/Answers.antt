use Rattle.std.proofs.Common.{subst, refl, None}
use Rattle.routes_spec.specs.Commands.{IsVersion}
use Rattle.http_routes.proofs.command.version_in.Goals as goal

pub returns-in-Some : goal.returns-in-Some
returns-in-Some c = subst (λ o. IsVersion o c.version_of.result) c.in-Some.ensures c.version_of.ensures

pub returns-in-None : goal.returns-in-None
returns-in-None c = subst (λ o. IsVersion o None) c.in-None.ensures refl
