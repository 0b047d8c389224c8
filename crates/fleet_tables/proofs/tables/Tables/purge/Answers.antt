use Rattle.std.proofs.Common.{◌∙◌, ap}
use Rattle.checkpoint_spec.specs.table_machine.Steps.{purge}
use Rattle.fleet_tables.proofs.StandsLaws.{stands_purged}
use Rattle.fleet_tables.proofs.tables.Tables.purge.Goals as goal

pub returns-clause-stands : goal.returns-clause-stands
returns-clause-stands c = λ history s.
    stands_purged c.args.self.now c.purge.new.self c.args.m history c.requires s (c.purge.ensures ∙ ap (purge c.args.m) c.self.view_is)
