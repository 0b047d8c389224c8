use Rattle.std.proofs.Common.{◌∙◌, Ok, Err, sym, ap, subst}
use Rattle.hub_calls.specs.core_ends.fleet_rows.declared.command.Command.{Command}
use Rattle.hub_calls.specs.core_ends.wire_spec.Decode.{DecodeOf}
use Rattle.hub_calls.specs.core_ends.command_decode.Answers.{RefusedAs}
use Rattle.hub_calls.specs.core_ends.command_decode.declared.fault.DecodeFault.{DecodeFault}
use Rattle.hub_calls.specs.core_ends.command_decode.declared.fault.DecodeFault.TheVariants.{Refused}
use Rattle.hub_calls.proofs.of_core_ends.Verdicts.{is_change, is_refusal}
use Rattle.hub_work.proofs.work.work_on.Goals as goal

pub settle_change-requires-clause-decodes : goal.settle_change-requires-clause-decodes
settle_change-requires-clause-decodes g c =
    is_change c.args.job.command c.in-Ok.change (subst (λ (x : Command). DecodeOf x (Ok c.in-Ok.change)) c.command.ensures c.in-Ok.ensures.answer)

pub settle_as-requires-clause-decodes : goal.settle_as-requires-clause-decodes
settle_as-requires-clause-decodes g c =
    let answered = subst (λ (fault : DecodeFault). RefusedAs fault c.command.result.now) c.in-Err-Refused.field-0-is c.in-Err-Refused.ensures.answer in
    is_refusal c.args.job.command c.in-Err-Refused.refusal (subst (λ (x : Command). RefusedAs (Refused c.in-Err-Refused.refusal) x) c.command.ensures answered)
    ∙ ap Err (sym c.in-Err-Refused.refusal-is)
