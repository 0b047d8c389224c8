-- The history that one thread makes of a dump, where each payload decodes to the change that it was made of.
use Rattle.std.specs.Prelude.{ℕ, suc, ℤ, List, [], ◌∷◌, Some, flat_map}
use Rattle.dump_spec.specs.fleet_rows.declared.applied.Applied.{Applied}
use Rattle.dump_spec.specs.fleet_rows.declared.change.Change.{Change}
use Rattle.dump_spec.specs.history_spec.Trace.{Trace, applied_as}
use Rattle.dump_spec.specs.table_machine.Table.{Table}
use Rattle.dump_spec.specs.checkpoint_spec.Histories.{with_events}
use Rattle.dump_spec.specs.list_again.Told.{expire_alone, reports_alone, swept_if}
use Rattle.dump_spec.specs.Dumps.{node_changes}

-- the changes in their order, with receipts from this one on
abbrev pub numbered : ℤ → ℕ → List Change → List Applied
numbered received receipt [] = []
numbered received receipt (c ∷ cs) = applied_as receipt (Some received) c ∷ numbered received (suc receipt) cs

abbrev pub dump_history : ℤ → Table → Trace
dump_history received table =
    swept_if reports_alone table.retention
    (swept_if expire_alone table.expiry (with_events (numbered received 1 (flat_map node_changes table.nodes)) []))
