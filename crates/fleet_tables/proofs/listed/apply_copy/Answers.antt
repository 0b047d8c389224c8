use Rattle.std.proofs.Common.{◌≡◌, OnOk, subst}
use Rattle.checkpoint_spec.specs.fleet_rows.declared.change.Change.{Change}
use Rattle.checkpoint_spec.specs.history_spec.Trace.{applied_as}
use Rattle.checkpoint_spec.specs.table_machine.Steps.{apply}
use Rattle.fleet_tables.proofs.listed.apply_copy.Goals as goal

pub returns : goal.returns
returns c =
    let command = c.args.command.now in
    subst (λ (change : Change). OnOk c.apply_now.result (c.apply_now.new.tables ≡ apply (applied_as command.receipt command.received change) c.args.tables.now))
    c.in_ok-change.ensures c.apply_now.ensures
