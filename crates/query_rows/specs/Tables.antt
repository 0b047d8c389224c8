-- The tables as the world of a query.
use Rattle.std.specs.Prelude.{ℕ, List, Bool}
use Rattle.fleet_tables.specs.Asked.{is_inactive_in}
use Rattle.fleet_tables.specs.table_machine.Rows.{table_rows}
use Rattle.fleet_tables.specs.table_machine.Table.{Table}
use Rattle.query_plan.specs.means_spec.World.{World}

abbrev pub world_of : Table → (List ℕ → List ℕ → Bool) → World
world_of table says = record { rows = λ e. table_rows e table; is_inactive = is_inactive_in table; matches = says }
