use Rattle.wire_laws.proofs.OneAnswer.{commands_have_some_answer, commands_have_one_answer}
use Rattle.wire_laws.proofs.decode.a_command_has_one_answer.Goals as goal

pub returns : goal.returns
returns c = record { some = commands_have_some_answer; one = commands_have_one_answer }
