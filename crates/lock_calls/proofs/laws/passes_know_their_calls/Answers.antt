use Rattle.lock_calls.proofs.Calls.{fresh_pass_knows, call_is_known, joined_pass_knows}
use Rattle.lock_calls.proofs.laws.passes_know_their_calls.Goals as goal

pub returns-clause-fresh : goal.returns-clause-fresh
returns-clause-fresh g c = fresh_pass_knows g.X.Calling.adds g.X.Calling.does

pub returns-clause-hold : goal.returns-clause-hold
returns-clause-hold g c = call_is_known g.X.Calling.adds g.X.Calling.does

pub returns-clause-join : goal.returns-clause-join
returns-clause-join g c = joined_pass_knows g.X.Calling.adds g.X.Calling.does
