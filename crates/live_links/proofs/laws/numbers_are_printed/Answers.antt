use Rattle.core_ends.specs.core_course.Sight.{sight_of}
use Rattle.live_links.proofs.Printing.{numbers_are_printed, printed_never_fall}
use Rattle.live_links.proofs.laws.numbers_are_printed.Goals as goal

pub returns-clause-printed : goal.returns-clause-printed
returns-clause-printed g c = numbers_are_printed (sight_of g.D.Disk g.K.Keeper)

pub returns-clause-rising : goal.returns-clause-rising
returns-clause-rising g c = printed_never_fall (sight_of g.D.Disk g.K.Keeper)
