use Rattle.core_laws.proofs.Outcomes.{submitted_commands_have_an_outcome, commands_end_once, endings_stay, pending_commands_wait, all_have_ended_where_nothing_waits, earlier_parts_are_legal}
use Rattle.core_laws.proofs.outcome.a_command_has_one_outcome.Goals as goal

pub returns-clause-submitted : goal.returns-clause-submitted
returns-clause-submitted c = submitted_commands_have_an_outcome

pub returns-clause-once : goal.returns-clause-once
returns-clause-once c = commands_end_once

pub returns-clause-stays : goal.returns-clause-stays
returns-clause-stays c = endings_stay

pub returns-clause-pending : goal.returns-clause-pending
returns-clause-pending c = pending_commands_wait

pub returns-clause-all : goal.returns-clause-all
returns-clause-all c = all_have_ended_where_nothing_waits

pub returns-clause-earlier : goal.returns-clause-earlier
returns-clause-earlier c = earlier_parts_are_legal
