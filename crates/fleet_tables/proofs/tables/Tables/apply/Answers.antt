use Rattle.std.proofs.Common.{◌∙◌, ap}
use Rattle.checkpoint_spec.specs.fleet_rows.declared.applied.Applied.{Applied}
use Rattle.checkpoint_spec.specs.history_spec.Trace.{applied_as}
use Rattle.checkpoint_spec.specs.table_machine.Steps.{apply}
use Rattle.fleet_tables.proofs.StandsLaws.{stands_applied}
use Rattle.fleet_tables.proofs.tables.Tables.apply.Goals as goal

pub returns-clause-stands : goal.returns-clause-stands
returns-clause-stands c = λ history s trace.
    let x : Applied = applied_as c.args.receipt c.args.received c.args.change in
    stands_applied c.args.self.now c.apply.new.self x history (c.apply.ensures ∙ ap (apply x) c.self.view_is) s trace
