use Rattle.query_reach.proofs.BoundLaws.{common_queries_read_few}
use Rattle.query_reach.proofs.laws.bounds_are_small.Goals as goal

pub returns : goal.returns
returns c = common_queries_read_few
