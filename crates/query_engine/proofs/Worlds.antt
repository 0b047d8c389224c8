-- Tables that stand for a history are asked what the history is asked.
use Rattle.std.proofs.Common.{◌≡◌, ℕ, List, Bool}
use Rattle.fleet_tables.specs.history_spec.Trace.{Trace}
use Rattle.fleet_tables.specs.table_machine.Table.{Table}
use Rattle.fleet_tables.specs.Stands.{Stands}
use Rattle.fleet_tables.proofs.Known.{inactive_known}
use Rattle.fleet_tables.proofs.RowLaws.{table_rows_are}
use Rattle.query_plan.specs.means_spec.World as spec
use Rattle.query_rows.specs.Tables.{world_of}

pub world_is : (table : Table) (history : Trace) (says : List ℕ → List ℕ → Bool) → Stands table history → world_of table says ≡ spec.world_of table.ttls history says
world_is table history says s =
    λ i. record { rows = λ e. table_rows_are e table history s i; is_inactive = λ node. inactive_known table history node s i; matches = says }
