use Rattle.routes_spec.proofs.RoutePaths.{its_route, its_path}
use Rattle.routes_spec.proofs.laws.a_route_has_its_path.Goals as goal

pub returns : goal.returns
returns c = record { found = its_route; only = its_path }
