use Rattle.std.proofs.Common.{◌∙◌, Ok, sym, ap}
use Rattle.core_drain.proofs.Calm.{counts_still, memory_is_calm}
use Rattle.core_ends.proofs.Verdicts.{is_lawful}
use Rattle.core_drain.proofs.LastCall.{memory_ends}
use Rattle.core_drain.proofs.work.settle_change.Goals as goal

pub of-requires-clause-lawful : goal.of-requires-clause-lawful
of-requires-clause-lawful g c = is_lawful c.args.job.command c.args.change c.requires.fit c.requires.decodes

pub settle_as-requires-clause-decodes : goal.settle_as-requires-clause-decodes
settle_as-requires-clause-decodes g c = c.requires.decodes ∙ ap Ok (sym c.in-Ok.ensures)

pub returns-in-Err-clause-queue_cause : goal.returns-in-Err-clause-queue_cause
returns-in-Err-clause-queue_cause g c =
    counts_still g.D.Disk.fault_count c.args.core.now.queue c.give_back.new.core.queue c.give_back.ensures.queue (memory_is_calm c.give_back.result c.give_back.ensures.memory)

pub returns-in-Err-clause-last : goal.returns-in-Err-clause-last
returns-in-Err-clause-last g c = memory_ends g.D.Disk g.K.Keeper c.args.core.now c.give_back.new.core c.give_back.result c.give_back.ensures.memory
