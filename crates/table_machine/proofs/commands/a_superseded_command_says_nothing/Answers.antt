use Rattle.table_machine.proofs.Outranked.{outranked_commands_change_nothing, tables_go_on_alike, superseded_commands_say_nothing}
use Rattle.table_machine.proofs.commands.a_superseded_command_says_nothing.Goals as goal

pub returns-clause-step : goal.returns-clause-step
returns-clause-step c = outranked_commands_change_nothing

pub returns-clause-alike : goal.returns-clause-alike
returns-clause-alike c = tables_go_on_alike

pub returns-clause-run : goal.returns-clause-run
returns-clause-run c = superseded_commands_say_nothing
