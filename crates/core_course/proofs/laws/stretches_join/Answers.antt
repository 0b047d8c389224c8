use Rattle.core_course.proofs.Stretches.{passed_join}
use Rattle.core_course.proofs.laws.stretches_join.Goals as goal

pub returns : goal.returns
returns g c first second a b d p q = passed_join _ first second a b d p q
