use Rattle.std.proofs.Common.{◌≡◌, true}
use Rattle.core_course.proofs.Uses.{links_stand}
use Rattle.core_course.proofs.laws.courses_stand.Goals as goal

pub returns : goal.returns
returns g c may old new course start stood = links_stand _ (λ core begun. may core begun ≡ true) old new course.stops course.linked start stood
