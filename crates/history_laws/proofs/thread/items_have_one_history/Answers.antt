use Rattle.history_laws.proofs.OneHistory.{items_have_some_history, items_have_one_history}
use Rattle.history_laws.proofs.thread.items_have_one_history.Goals as goal

pub returns : goal.returns
returns c = record { some = items_have_some_history; one = items_have_one_history }
