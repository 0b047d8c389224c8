use Rattle.history_laws.proofs.NewestIsGreatest.{none_is_newest_where_none_is_of_the_kind}
use Rattle.history_laws.proofs.newest.none_is_newest_where_none_is_of_the_kind.Goals as goal

pub returns : goal.returns
returns c = none_is_newest_where_none_is_of_the_kind
