-- Statements on the bytes of a dump.
use Rattle.std.specs.Prelude.{◌≡◌, ℤ, [], flat_map}
use Rattle.list_again.specs.fleet_rows.declared.settings.Ttls.{Ttls}
use Rattle.list_again.specs.table_machine.Steps.{empty_table}
use Rattle.list_again.specs.table_machine.Table.{Table}
use Rattle.dump_spec.specs.Dumps.{dump_items, item_text, dump_text}

-- nothing is dumped of a table without nodes and sweeps
abbrev pub EmptyTablesHaveEmptyDumps : Type 0
EmptyTablesHaveEmptyDumps = (ttls : Ttls) → dump_text (empty_table ttls) ≡ []

-- the bytes don't tell when a command was received
abbrev pub DumpsDoNotTellReceipts : Type 0
DumpsDoNotTellReceipts = (table : Table) (received : ℤ) → flat_map item_text (dump_items received table) ≡ dump_text table
