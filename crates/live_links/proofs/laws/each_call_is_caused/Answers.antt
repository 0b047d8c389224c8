use Rattle.core_ends.specs.core_course.Sight.{sight_of}
use Rattle.live_links.proofs.CallCauses.{each_call_is_caused}
use Rattle.live_links.proofs.laws.each_call_is_caused.Goals as goal

pub returns : goal.returns
returns g c = each_call_is_caused (sight_of g.D.Disk g.K.Keeper) g.K.Keeper.generation
