use Rattle.std.proofs.Common.{◌∙◌, Ok, sym, ap, subst}
use Rattle.std.proofs.lemmas.Result.{IfOk-weaker}
use Rattle.core_ends.specs.command_decode.Answers.{RefusedAs}
use Rattle.core_ends.specs.command_decode.declared.fault.DecodeFault.{DecodeFault}
use Rattle.core_ends.proofs.Verdicts.{is_change, is_refusal}
use Rattle.live_stage.proofs.Stepping.{not_refused}
use Rattle.live_stage.proofs.shelf.prepared_of.Goals as goal

pub unreachable-requires : goal.unreachable-requires
unreachable-requires c =
    let command = c.args.command.now in
    let refused = subst (λ (fault : DecodeFault). RefusedAs fault command) c.in-Err-Refused.field-0-is c.in-Err-Refused.ensures.answer in
    not_refused command c.requires.change.0 c.in-Err-Refused.field-0-0 c.requires.change.1 (is_refusal command c.in-Err-Refused.field-0-0 refused)

pub returns-in-Ok : goal.returns-in-Ok
returns-in-Ok c = IfOk-weaker c.of.result _ _ (λ prepared is. is_change c.args.command.now c.in-Ok.change c.in-Ok.ensures.answer ∙ ap Ok (sym is)) c.of.ensures
