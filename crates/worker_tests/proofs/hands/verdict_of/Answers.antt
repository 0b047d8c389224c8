use Rattle.std.proofs.Common.{◌∙◌, Ok, Err, sym, ap, subst}
use Rattle.fleet_hub.specs.command_decode.fleet_rows.declared.command.Command.{Command}
use Rattle.fleet_hub.specs.command_decode.wire_spec.Decode.{DecodeOf}
use Rattle.fleet_hub.specs.command_decode.Answers.{RefusedAs}
use Rattle.fleet_hub.specs.command_decode.declared.fault.DecodeFault.{DecodeFault}
use Rattle.fleet_hub.specs.command_decode.declared.fault.DecodeFault.TheVariants.{Refused}
use Rattle.fleet_hub.proofs.of_core_drain.Verdicts.{is_change, is_refusal}
use Rattle.worker_tests.proofs.hands.verdict_of.Goals as goal

pub returns-in_ok-of-in-Ok : goal.returns-in_ok-of-in-Ok
returns-in_ok-of-in-Ok c =
    is_change c.args.job.now.command c.in-Ok.change (subst (λ (x : Command). DecodeOf x (Ok c.in-Ok.change)) c.command.ensures c.in-Ok.ensures.answer)
    ∙ ap Ok (sym c.in_ok-of-in-Ok.ensures)

pub returns-in-Err-Refused : goal.returns-in-Err-Refused
returns-in-Err-Refused c =
    let answered = subst (λ (fault : DecodeFault). RefusedAs fault c.command.result.now) c.in-Err-Refused.field-0-is c.in-Err-Refused.ensures.answer in
    is_refusal c.args.job.now.command c.in-Err-Refused.refusal (subst (λ (x : Command). RefusedAs (Refused c.in-Err-Refused.refusal) x) c.command.ensures answered)
    ∙ ap Err (sym c.in-Err-Refused.refusal-is)
