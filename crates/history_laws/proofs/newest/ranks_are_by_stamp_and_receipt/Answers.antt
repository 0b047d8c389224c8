use Rattle.history_laws.proofs.RankWords.{ranks_are_by_stamp_and_receipt, ranks_are_in_order, ranks_go_on}
use Rattle.history_laws.proofs.newest.ranks_are_by_stamp_and_receipt.Goals as goal

pub returns-clause-by : goal.returns-clause-by
returns-clause-by c = ranks_are_by_stamp_and_receipt

pub returns-clause-order : goal.returns-clause-order
returns-clause-order c = ranks_are_in_order

pub returns-clause-on : goal.returns-clause-on
returns-clause-on c = ranks_go_on
