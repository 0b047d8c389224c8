use Rattle.std.proofs.Common.{IfOk, ◌∙◌, ap, subst}
use Rattle.checkpoint_spec.specs.table_machine.Rows.{table_rows}
use Rattle.kept_nodes.specs.Rows.{IsRowAt}
use Rattle.fleet_tables.proofs.RowLaws.{table_rows_are}
use Rattle.fleet_tables.proofs.tables.Tables.row.Goals as goal

pub returns-clause-stands : goal.returns-clause-stands
returns-clause-stands g c = λ history s.
    subst (λ list. IfOk c.row.result (λ row. IsRowAt row c.args.entity list c.args.i))
    (ap (table_rows c.args.entity) c.self.view_is ∙ table_rows_are c.args.entity c.args.self.now history s) c.row.ensures
