use Rattle.core_laws.proofs.Reasons.{applied_commands_stand_in_the_trace, applied_commands_decode, superseded_commands_are_replaced, refused_commands_are_refused, given_up_commands_failed_sixteen_times}
use Rattle.core_laws.proofs.outcome.an_outcome_has_its_reason.Goals as goal

pub returns-clause-applied : goal.returns-clause-applied
returns-clause-applied c = applied_commands_stand_in_the_trace

pub returns-clause-decodes : goal.returns-clause-decodes
returns-clause-decodes c = applied_commands_decode

pub returns-clause-superseded : goal.returns-clause-superseded
returns-clause-superseded c = superseded_commands_are_replaced

pub returns-clause-refused : goal.returns-clause-refused
returns-clause-refused c = refused_commands_are_refused

pub returns-clause-given_up : goal.returns-clause-given_up
returns-clause-given_up c = given_up_commands_failed_sixteen_times
