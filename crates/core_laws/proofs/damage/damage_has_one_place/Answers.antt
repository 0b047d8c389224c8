use Rattle.core_laws.proofs.DamagePlaces.{damage_has_one_place}
use Rattle.core_laws.proofs.damage.damage_has_one_place.Goals as goal

pub returns : goal.returns
returns c = damage_has_one_place
