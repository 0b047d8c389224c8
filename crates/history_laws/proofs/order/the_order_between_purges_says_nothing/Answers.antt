use Rattle.history_laws.proofs.Reorderings.{the_order_between_purges_says_nothing}
use Rattle.history_laws.proofs.order.the_order_between_purges_says_nothing.Goals as goal

pub returns : goal.returns
returns c = the_order_between_purges_says_nothing
