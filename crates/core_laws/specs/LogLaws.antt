-- No record that a legal history leaves is damage.
use Rattle.std.specs.Prelude.{◌≡◌, ◌⊎◌, ◌<◌, List, [], ◌∷◌, length, None}
use Rattle.core_machine.specs.fleet_rows.declared.settings.Ttls.{Ttls}
use Rattle.core_machine.specs.record_spec.declared.queue.QueueRecord.{QueueRecord}
use Rattle.core_machine.specs.record_spec.declared.queue.QueueRecord.TheVariants as queue
use Rattle.core_machine.specs.record_spec.declared.store.StoreRecord.{StoreRecord}
use Rattle.core_machine.specs.record_spec.declared.store.StoreRecord.TheVariants as store
use Rattle.core_machine.specs.core_spec.declared.event.Event.TheVariants.{Submit}
use Rattle.core_machine.specs.core_spec.Checkpoints.{settings}
use Rattle.core_machine.specs.core_spec.Damage.{IsQueueLog, IsStoreLog}
use Rattle.core_machine.specs.core_spec.History.{History}
use Rattle.core_machine.specs.core_spec.Legal.{IsLegal}
use Rattle.core_machine.specs.core_spec.Pending.{pending_of}
use Rattle.core_machine.specs.core_spec.Stands.{QueueTells, StoreTells, MissesDone, GivesUpAtOnce, Stands}
use Rattle.checkpoint_spec.specs.fleet_rows.Limits.{most_pending}

-- each command was submitted while fewer than 262,144 commands were pending
abbrev pub RoomWasLeft : History → Type 0
RoomWasLeft [] = Unit {0}
RoomWasLeft (Submit r c ∷ earlier) = (length (pending_of earlier) < most_pending) × RoomWasLeft earlier
RoomWasLeft (_ ∷ earlier) = RoomWasLeft earlier

-- The queue's records are a log, from any checkpoint on, also if the last Done is missing. Each sixteenth failure must discard at
-- once, and each command must have found room.
abbrev pub NoQueueRecordIsDamage : Type 0
NoQueueRecordIsDamage =
    (ttls : Ttls) (queued : List QueueRecord) (kept : List StoreRecord) (history : History) → IsLegal ttls history → GivesUpAtOnce history → RoomWasLeft history
    → QueueTells queued history ⊎ MissesDone queued kept history → IsQueueLog queued

-- the store's records are a log, from any checkpoint on
abbrev pub NoStoreRecordIsDamage : Type 0
NoStoreRecordIsDamage = (ttls : Ttls) (kept : List StoreRecord) (history : History) → StoreTells ttls kept history → IsStoreLog kept

-- the logs that `init` writes stand for the empty history
abbrev pub LaidLogsStand : Type 0
LaidLogsStand = (ttls : Ttls) → Stands ttls (queue.Base 0 ∷ []) (settings ttls ∷ store.Base None None None ∷ []) []

-- the first record of the store has the lifetimes
abbrev pub LifetimesAreTold : Type 0
LifetimesAreTold = (ttls : Ttls) (kept : List StoreRecord) (history : History) → StoreTells ttls kept history → (rest : List StoreRecord) × (kept ≡ settings ttls ∷ rest)
