use Rattle.core_course.proofs.OneCalls.{one_moves}
use Rattle.core_course.proofs.laws.calls_move_one.Goals as goal

pub returns : goal.returns
returns c = one_moves
