-- The main law of the records that a list is written as.
use Rattle.std.specs.Prelude.{◌≡◌, ℕ, Option}
use Rattle.core_laws.specs.checkpoint_spec.fleet_rows.declared.settings.Ttls.{Ttls}
use Rattle.core_laws.specs.checkpoint_spec.history_spec.Trace.{Trace, IsTrace}
use Rattle.core_laws.specs.checkpoint_spec.Histories.{checkpoint}
use Rattle.core_laws.specs.core_machine.core_spec.Checkpoints.{store_checkpoint}
use Rattle.compact_laws.specs.Records.{records_of}

-- the records made from the checkpoint list of a history are the checkpoint of the store's log
abbrev pub ListsAreWrittenAsTheCheckpoint : Type 0
ListsAreWrittenAsTheCheckpoint =
    (ttls : Ttls) (taken : Option ℕ) (trace : Trace) → IsTrace trace → records_of taken (checkpoint ttls trace) ≡ store_checkpoint ttls taken trace
