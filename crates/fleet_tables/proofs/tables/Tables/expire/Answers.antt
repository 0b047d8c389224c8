use Rattle.std.proofs.Common.{◌∙◌, ap}
use Rattle.checkpoint_spec.specs.table_machine.Steps.{expire}
use Rattle.fleet_tables.proofs.StandsLaws.{stands_expired}
use Rattle.fleet_tables.proofs.tables.Tables.expire.Goals as goal

pub returns-clause-stands : goal.returns-clause-stands
returns-clause-stands c = λ history s.
    stands_expired c.args.self.now c.expire.new.self c.args.m history c.requires s (c.expire.ensures ∙ ap (expire c.args.m) c.self.view_is)
