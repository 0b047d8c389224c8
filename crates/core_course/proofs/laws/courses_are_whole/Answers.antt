use Rattle.core_course.proofs.Uses.{all_are_within}
use Rattle.core_course.proofs.laws.courses_are_whole.Goals as goal

pub returns : goal.returns
returns g c may old new course = all_are_within _ old new course.stops
