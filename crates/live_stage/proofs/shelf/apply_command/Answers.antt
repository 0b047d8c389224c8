use Rattle.std.proofs.Common.{◌∙◌, sym, ap, subst}
use Rattle.core_ends.specs.history_spec.Lawful.{IsChange}
use Rattle.core_ends.specs.table_machine.Table.{Table}
use Rattle.core_ends.proofs.Verdicts.{is_lawful}
use Rattle.live_stage.proofs.shelf.apply_command.Goals as goal

pub apply-requires-clause-lawful : goal.apply-requires-clause-lawful
apply-requires-clause-lawful c = subst IsChange (sym c.in-Ok.ensures.change) (is_lawful c.args.command.now c.in_ok-prepared.prepared c.requires.fit c.in_ok-prepared.ensures)

pub returns-in-Ok-clause-lifetimes : goal.returns-in-Ok-clause-lifetimes
returns-in-Ok-clause-lifetimes c = ap (λ (t : Table). t.ttls) c.apply.ensures.step ∙ ap (λ (t : Table). t.ttls) c.reserve_prepared.ensures.same
