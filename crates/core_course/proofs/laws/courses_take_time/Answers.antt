use Rattle.std.proofs.Common.{◌≡◌, true}
use Rattle.core_course.proofs.Uses.{links_later}
use Rattle.core_course.proofs.laws.courses_take_time.Goals as goal

pub returns : goal.returns
returns g c may old new course start stood = links_later _ (λ core begun. may core begun ≡ true) old new course.stops course.linked start stood
