use Rattle.core_laws.proofs.DamagePlaces.{logs_are_undamaged}
use Rattle.core_laws.proofs.damage.a_log_is_undamaged.Goals as goal

pub returns : goal.returns
returns c = logs_are_undamaged
