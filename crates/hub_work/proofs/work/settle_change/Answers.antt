use Rattle.std.proofs.Common.{◌∙◌, Ok, sym, ap}
use Rattle.hub_calls.proofs.of_core_ends.Verdicts.{is_lawful}
use Rattle.hub_work.proofs.work.settle_change.Goals as goal

pub of-requires-clause-lawful : goal.of-requires-clause-lawful
of-requires-clause-lawful g c = is_lawful c.args.job.command c.args.change c.requires.fit c.requires.decodes

pub settle_as-requires-clause-decodes : goal.settle_as-requires-clause-decodes
settle_as-requires-clause-decodes g c = c.requires.decodes ∙ ap Ok (sym c.in-Ok.ensures)
