-- Statements on the checkpoints of tables.
use Rattle.std.specs.Prelude.{◌≡◌, List}
use Rattle.table_laws.specs.fleet_rows.declared.applied.Applied.{Applied}
use Rattle.table_laws.specs.fleet_rows.declared.settings.Ttls.{Ttls}
use Rattle.table_laws.specs.history_spec.Trace.{Trace, IsTrace}
use Rattle.table_laws.specs.table_machine.Table.{table_of}
use Rattle.checkpoint_spec.specs.Histories.{checkpoint, goes_on, with_events}
use Rattle.checkpoint_spec.specs.Lists.{list_of, table_of_list}

-- the list of a history's table is the history's checkpoint
abbrev pub TablesListTheCheckpoint : Type 0
TablesListTheCheckpoint = (ttls : Ttls) (history : Trace) → IsTrace history → list_of (table_of ttls history) ≡ checkpoint ttls history

-- a checkpoint leads to the table of its history: nodes, reports, newest commands, activities and greatest sweeps
abbrev pub CheckpointsLeadToTheTable : Type 0
CheckpointsLeadToTheTable = (ttls : Ttls) (history : Trace) → IsTrace history → table_of_list (checkpoint ttls history) ≡ table_of ttls history

-- a checkpoint followed by more commands leads to the table of the history with these commands
abbrev pub FurtherCommandsAreFollowed : Type 0
FurtherCommandsAreFollowed =
    (ttls : Ttls) (history : Trace) (xs : List Applied) → IsTrace (with_events xs history)
    → table_of_list (goes_on xs (checkpoint ttls history)) ≡ table_of ttls (with_events xs history)

-- the checkpoint of a checkpoint's table is the same checkpoint; with more commands it is the checkpoint of the longer history
abbrev pub CheckpointsAreTheirOwn : Type 0
CheckpointsAreTheirOwn = (ttls : Ttls) (history : Trace) → IsTrace history → list_of (table_of_list (checkpoint ttls history)) ≡ checkpoint ttls history

abbrev pub FurtherCommandsAreListed : Type 0
FurtherCommandsAreListed =
    (ttls : Ttls) (history : Trace) (xs : List Applied) → IsTrace (with_events xs history)
    → list_of (table_of_list (goes_on xs (checkpoint ttls history))) ≡ checkpoint ttls (with_events xs history)

-- two histories with equal tables have equal checkpoints
abbrev pub OneTableHasOneCheckpoint : Type 0
OneTableHasOneCheckpoint =
    (ttls : Ttls) (history other : Trace) → IsTrace history → IsTrace other
    → table_of ttls history ≡ table_of ttls other → checkpoint ttls history ≡ checkpoint ttls other
