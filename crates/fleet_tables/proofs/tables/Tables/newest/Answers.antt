use Rattle.std.proofs.Common.{◌∙◌, ap}
use Rattle.checkpoint_spec.specs.table_machine.Table.{Table}
use Rattle.fleet_tables.specs.Asked.{newest_in}
use Rattle.fleet_tables.proofs.Known.{newest_known}
use Rattle.fleet_tables.proofs.tables.Tables.newest.Goals as goal

pub returns-clause-stands : goal.returns-clause-stands
returns-clause-stands c = λ history s.
    c.newest.ensures ∙ ap (λ (t : Table). newest_in t c.args.certname.now c.args.kind) c.self.view_is ∙ newest_known c.args.self.now history c.args.certname.now s c.args.kind
