use Rattle.std.proofs.Common.{◌≡◌, true}
use Rattle.core_course.proofs.Stretches.{course_joins}
use Rattle.core_course.proofs.laws.courses_join.Goals as goal

pub returns : goal.returns
returns g c may a b d p q = course_joins _ (λ core begun. may core begun ≡ true) a b d p q
