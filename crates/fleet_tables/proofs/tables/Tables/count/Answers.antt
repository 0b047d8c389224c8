use Rattle.std.proofs.Common.{◌∙◌, length, ap}
use Rattle.checkpoint_spec.specs.table_machine.Rows.{table_rows}
use Rattle.checkpoint_spec.specs.table_machine.Table.{Table}
use Rattle.fleet_tables.proofs.RowLaws.{table_rows_are}
use Rattle.fleet_tables.proofs.tables.Tables.count.Goals as goal

pub returns-clause-stands : goal.returns-clause-stands
returns-clause-stands c = λ history s.
    c.count.ensures ∙ ap (λ (t : Table). length (table_rows c.args.entity t)) c.self.view_is ∙ ap length (table_rows_are c.args.entity c.args.self.now history s)
