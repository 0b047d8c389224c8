use Rattle.query_reach.proofs.LeastLaws.{reach_is_least}
use Rattle.query_reach.proofs.laws.reach_is_least.Goals as goal

pub returns : goal.returns
returns c = reach_is_least
