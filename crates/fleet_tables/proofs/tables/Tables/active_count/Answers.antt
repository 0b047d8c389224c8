use Rattle.std.proofs.Common.{◌∙◌, length, ap}
use Rattle.std.specs.List.{filter}
use Rattle.checkpoint_spec.specs.table_machine.Rows.{table_rows}
use Rattle.checkpoint_spec.specs.table_machine.Table.{Table}
use Rattle.fleet_tables.specs.Active.{is_active_row}
use Rattle.fleet_tables.proofs.tables.Tables.active_count.Goals as goal

pub returns : goal.returns
returns c = c.active_count.ensures ∙ ap (λ (t : Table). length (filter (is_active_row c.args.entity t) (table_rows c.args.entity t))) c.self.view_is
