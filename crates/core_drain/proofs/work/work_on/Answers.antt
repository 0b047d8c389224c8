use Rattle.std.proofs.Common.{◌∙◌, Ok, Err, sym, ap, subst}
use Rattle.command_decode.specs.fleet_rows.declared.command.Command.{Command}
use Rattle.command_decode.specs.wire_spec.Decode.{DecodeOf}
use Rattle.command_decode.specs.Answers.{RefusedAs}
use Rattle.command_decode.specs.declared.fault.DecodeFault.{DecodeFault}
use Rattle.command_decode.specs.declared.fault.DecodeFault.TheVariants.{Refused}
use Rattle.core_drain.proofs.Calm.{counts_still, memory_is_calm}
use Rattle.core_ends.proofs.Verdicts.{is_change, is_refusal}
use Rattle.core_drain.proofs.LastCall.{memory_ends}
use Rattle.core_drain.proofs.work.work_on.Goals as goal

pub settle_change-requires-clause-decodes : goal.settle_change-requires-clause-decodes
settle_change-requires-clause-decodes g c =
    is_change c.args.job.command c.in-Ok.change (subst (λ (x : Command). DecodeOf x (Ok c.in-Ok.change)) c.command.ensures c.in-Ok.ensures.answer)

pub settle_as-requires-clause-decodes : goal.settle_as-requires-clause-decodes
settle_as-requires-clause-decodes g c =
    let answered = subst (λ (fault : DecodeFault). RefusedAs fault c.command.result.now) c.in-Err-Refused.field-0-is c.in-Err-Refused.ensures.answer in
    is_refusal c.args.job.command c.in-Err-Refused.refusal (subst (λ (x : Command). RefusedAs (Refused c.in-Err-Refused.refusal) x) c.command.ensures answered)
    ∙ ap Err (sym c.in-Err-Refused.refusal-is)

pub returns-in-Err-Memory-clause-queue_cause : goal.returns-in-Err-Memory-clause-queue_cause
returns-in-Err-Memory-clause-queue_cause g c =
    counts_still g.D.Disk.fault_count c.args.core.now.queue c.give_back.new.core.queue c.give_back.ensures.queue (memory_is_calm c.give_back.result c.give_back.ensures.memory)

pub returns-in-Err-Memory-clause-last : goal.returns-in-Err-Memory-clause-last
returns-in-Err-Memory-clause-last g c = memory_ends g.D.Disk g.K.Keeper c.args.core.now c.give_back.new.core c.give_back.result c.give_back.ensures.memory
