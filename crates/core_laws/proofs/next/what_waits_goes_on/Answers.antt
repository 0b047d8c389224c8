use Rattle.core_laws.proofs.NextEvents.{claimed_commands_may_end, waiting_commands_go_on}
use Rattle.core_laws.proofs.next.what_waits_goes_on.Goals as goal

pub returns-clause-ends : goal.returns-clause-ends
returns-clause-ends c = claimed_commands_may_end

pub returns-clause-goes_on : goal.returns-clause-goes_on
returns-clause-goes_on c = waiting_commands_go_on
