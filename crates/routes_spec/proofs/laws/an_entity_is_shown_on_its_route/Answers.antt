use Rattle.routes_spec.proofs.EntityRoutes.{entity_is_shown}
use Rattle.routes_spec.proofs.laws.an_entity_is_shown_on_its_route.Goals as goal

pub returns : goal.returns
returns c = entity_is_shown
