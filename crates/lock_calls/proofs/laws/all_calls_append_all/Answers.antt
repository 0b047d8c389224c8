use Rattle.lock_calls.proofs.Calls.{each_entry_is_of_one_call}
use Rattle.lock_calls.proofs.laws.all_calls_append_all.Goals as goal

pub returns : goal.returns
returns g c = each_entry_is_of_one_call g.X.Calling.adds g.X.Calling.does
