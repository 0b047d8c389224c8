use Rattle.core_course.proofs.Stretches.{worked_on}
use Rattle.core_course.proofs.laws.work_goes_on.Goals as goal

pub returns : goal.returns
returns g c a b d p q = worked_on _ a b d p q
