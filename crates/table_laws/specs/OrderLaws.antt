-- The order of events between two purges doesn't change the rows.
use Rattle.std.specs.Prelude.{◌≡◌}
use Rattle.table_machine.specs.fleet_rows.declared.row.Entity.{Entity}
use Rattle.table_machine.specs.fleet_rows.declared.settings.Ttls.{Ttls}
use Rattle.table_machine.specs.history_spec.Trace.{Trace, IsTrace}
use Rattle.table_machine.specs.history_laws.OrderLaws.{Reordered}
use Rattle.table_machine.specs.Table.{table_of}
use Rattle.table_machine.specs.table_spec.Rows.{rows}

abbrev pub TheOrderBetweenPurgesLeavesTheRows : Type 0
TheOrderBetweenPurgesLeavesTheRows =
    (entity : Entity) (ttls : Ttls) (history other : Trace) → IsTrace history → Reordered history other
    → rows entity ttls history ≡ rows entity ttls other

-- nor does it change the table, so further events have the same effect
abbrev pub TheOrderBetweenPurgesLeavesTheTable : Type 0
TheOrderBetweenPurgesLeavesTheTable =
    (ttls : Ttls) (history other : Trace) → IsTrace history → Reordered history other → table_of ttls history ≡ table_of ttls other

-- a reordered trace is a trace
abbrev pub ReorderedTracesAreTraces : Type 0
ReorderedTracesAreTraces = (history other : Trace) → IsTrace history → Reordered history other → IsTrace other
