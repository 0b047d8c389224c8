use Rattle.std.proofs.Common.{refl}
use Rattle.form_urlencoded.proofs.OnLiterals.{form_urlencoded_on_literals}
use Rattle.routes_spec.specs.Routes.{route_at}
use Rattle.routes_spec.proofs.ParameterTexts.{three_parameters}
use Rattle.routes_spec.proofs.laws.requests_are_read_so.Goals as goal

pub returns : goal.returns
unfolding route_at form_urlencoded_on_literals
returns c = record { path = refl; query = refl; no_query = refl; nodes = refl; none = refl; parameters = three_parameters; first = refl; last = refl }
