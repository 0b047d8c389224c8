use Rattle.history_laws.proofs.NewestIsGreatest.{the_newest_is_not_outranked}
use Rattle.history_laws.proofs.newest.the_newest_is_not_outranked.Goals as goal

pub returns : goal.returns
returns c = the_newest_is_not_outranked
