-- The rows of tables that stand for a history are its rows.
use Rattle.std.proofs.Common.{◌≡◌, ◌∙◌, ap}
use Rattle.checkpoint_spec.specs.fleet_rows.declared.row.Entity.{Entity}
use Rattle.checkpoint_spec.specs.history_spec.Trace.{Trace}
use Rattle.checkpoint_spec.specs.table_machine.Rows.{table_rows}
use Rattle.checkpoint_spec.specs.table_machine.Table.{Table}
use Rattle.checkpoint_spec.proofs.of_table_machine.TableRows.{rows_are_those_of_the_history}
use Rattle.checkpoint_spec.specs.table_spec.Rows.{rows}
use Rattle.fleet_tables.specs.Stands.{Stands}

pub table_rows_are : (entity : Entity) (table : Table) (history : Trace) → Stands table history → table_rows entity table ≡ rows entity table.ttls history
table_rows_are entity table history s = ap (table_rows entity) s.1 ∙ rows_are_those_of_the_history entity table.ttls history s.0
