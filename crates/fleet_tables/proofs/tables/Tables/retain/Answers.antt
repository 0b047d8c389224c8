use Rattle.std.proofs.Common.{◌∙◌, ap}
use Rattle.checkpoint_spec.specs.table_machine.Steps.{retain}
use Rattle.fleet_tables.proofs.StandsLaws.{stands_retained}
use Rattle.fleet_tables.proofs.tables.Tables.retain.Goals as goal

pub returns-clause-stands : goal.returns-clause-stands
returns-clause-stands c = λ history s.
    stands_retained c.args.self.now c.retain.new.self c.args.m history c.requires s (c.retain.ensures ∙ ap (retain c.args.m) c.self.view_is)
