-- The records with which the two logs start.
use Rattle.std.specs.Prelude.{[], ◌∷◌, List, None}
use Rattle.queue_records.specs.fleet_rows.declared.settings.Ttls.{Ttls}
use Rattle.queue_records.specs.record_spec.declared.queue.QueueRecord.{QueueRecord}
use Rattle.queue_records.specs.record_spec.declared.queue.QueueRecord.TheVariants as queue
use Rattle.queue_records.specs.record_spec.declared.store.StoreRecord.{StoreRecord}
use Rattle.queue_records.specs.record_spec.declared.store.StoreRecord.TheVariants as store
use Rattle.core_spec.specs.Checkpoints.{settings}

-- no receipt was given out
abbrev pub first_queued : List QueueRecord
first_queued = queue.Base 0 ∷ []

-- the lifetimes, and a base without sweeps or an applied receipt
abbrev pub first_kept : Ttls → List StoreRecord
first_kept ttls = settings ttls ∷ store.Base None None None ∷ []
