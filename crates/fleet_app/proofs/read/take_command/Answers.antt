use Rattle.std.proofs.Common.{◌∙◌, refl, ap, subst, Some, Ok, Err}
use Rattle.busy_commands.proofs.of_wire_laws.LawfulChanges.{decoded_changes_are_lawful}
use Rattle.busy_commands.specs.history_spec.Trace.{applied_as}
use Rattle.busy_commands.specs.table_machine.Steps.{apply}
use Rattle.busy_commands.specs.command_decode.Answers.{RefusedAs}
use Rattle.fleet_app.proofs.read.take_command.Goals as goal

pub reserve-requires : goal.reserve-requires
reserve-requires c = decoded_changes_are_lawful c.args.command c.in-Ok.change c.requires.size c.in-Ok.ensures.answer

pub apply-requires-clause-lawful : goal.apply-requires-clause-lawful
apply-requires-clause-lawful c = decoded_changes_are_lawful c.args.command c.in-Ok.change c.requires.size c.in-Ok.ensures.answer

pub returns-in-Ok : goal.returns-in-Ok
returns-in-Ok c = record {
  answer = Ok c.in-Ok.change;
  decoded = c.in-Ok.ensures.answer;
  table = c.apply.ensures.step ∙ ap (apply (applied_as c.args.receipt (Some c.args.command.received) c.in-Ok.change)) c.in_ok-room-in-Ok.ensures.same;
}

pub returns-in-Err-Refused : goal.returns-in-Err-Refused
returns-in-Err-Refused c = record {
  answer = Err c.in-Err-Refused.field-0-0;
  decoded = subst (λ f. RefusedAs f c.args.command) c.in-Err-Refused.field-0-is c.in-Err-Refused.ensures.answer;
  table = refl;
}
