use Rattle.std.proofs.Common.{◌∙◌, ap}
use Rattle.checkpoint_spec.specs.table_machine.Table.{Table}
use Rattle.fleet_tables.specs.Asked.{is_inactive_in}
use Rattle.fleet_tables.proofs.Known.{inactive_known}
use Rattle.fleet_tables.proofs.tables.Tables.inactive.Goals as goal

pub returns-clause-stands : goal.returns-clause-stands
returns-clause-stands c = λ history s.
    c.inactive.ensures ∙ ap (λ (t : Table). is_inactive_in t c.args.certname.now) c.self.view_is ∙ inactive_known c.args.self.now history c.args.certname.now s
