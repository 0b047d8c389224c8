-- How the records of the two logs grow with the events, and still stand for the history.
use Rattle.std.specs.Prelude.{◌↔◌, ℕ, ◌≤◌, ℤ, length, List, [], ◌∷◌, ◌++◌, reverse, map, Option}
use Rattle.std.specs.List.{AllByRecursion, Contains}
use Rattle.core_machine.specs.fleet_rows.declared.settings.Ttls.{Ttls}
use Rattle.core_machine.specs.record_spec.declared.queue.QueueRecord.{QueueRecord}
use Rattle.core_machine.specs.record_spec.declared.queue.QueueRecord.TheVariants as queue
use Rattle.core_machine.specs.record_spec.declared.store.StoreRecord.{StoreRecord}
use Rattle.core_machine.specs.record_spec.Queue.{IsQueueRecord}
use Rattle.core_machine.specs.core_spec.declared.entry.Entry.{Entry}
use Rattle.core_machine.specs.core_spec.declared.event.Event.{Event}
use Rattle.core_machine.specs.core_spec.declared.event.Event.TheVariants.{Apply, Restart}
use Rattle.core_machine.specs.core_spec.Checkpoints.{queue_checkpoint, store_checkpoint, MayBeTaken}
use Rattle.core_machine.specs.core_spec.Damage.{Waits, waiting_in, IsQueueLog}
use Rattle.core_machine.specs.core_spec.History.{History, trace_of}
use Rattle.core_machine.specs.core_spec.Legal.{IsLegal}
use Rattle.core_machine.specs.core_spec.Pending.{pending_of, NoneIsWornOut}
use Rattle.core_machine.specs.core_spec.Stands.{queue_part, QueueTells, store_part, StoreTells, MissesDone, GivesUpAtOnce, Stands}
use Rattle.core_laws.specs.Replay.{pending_after}
use Rattle.checkpoint_spec.specs.fleet_rows.Limits.{most_pending}

-- ---- one event more

-- an event appends its records to those of the history
abbrev pub QueueRecordsGoOn : Type 0
QueueRecordsGoOn = (records : List QueueRecord) (e : Event) (history : History) → QueueTells records history → QueueTells (records ++ queue_part e) (e ∷ history)

abbrev pub StoreRecordsGoOn : Type 0
StoreRecordsGoOn =
    (ttls : Ttls) (records : List StoreRecord) (e : Event) (history : History) → StoreTells ttls records history → StoreTells ttls (records ++ store_part e history) (e ∷ history)

-- a checkpoint of the history tells the history
abbrev pub QueueCheckpointsTell : Type 0
QueueCheckpointsTell = (history : History) → NoneIsWornOut (pending_of history) → QueueTells (queue_checkpoint history) history

abbrev pub StoreCheckpointsTell : Type 0
StoreCheckpointsTell = (ttls : Ttls) (taken : Option ℕ) (history : History) → MayBeTaken taken history → StoreTells ttls (store_checkpoint ttls taken (trace_of history)) history

-- a queue's checkpoint has no damage if at most 262,144 commands are pending
abbrev pub QueueCheckpointsAreLogs : Type 0
QueueCheckpointsAreLogs =
    (ttls : Ttls) (history : History) → IsLegal ttls history → NoneIsWornOut (pending_of history) → length (pending_of history) ≤ most_pending
    → IsQueueLog (queue_checkpoint history)

-- a log has at most 262,144 pending commands
abbrev pub LogsAreBounded : Type 0
LogsAreBounded = (records : List QueueRecord) → IsQueueLog records → length (waiting_in (reverse records)) ≤ most_pending

-- ---- both logs

-- a legal history whose sixteenth failures discarded at once, and which has no pending command that failed sixteen times
pub record IsPlain (ttls : Ttls) (history : History) : Type 0 where
  pub legal : IsLegal ttls history
  pub few : NoneIsWornOut (pending_of history)
  pub at_once : GivesUpAtOnce history

-- if each of the two logs tells the history, both together stand for it
abbrev pub BothLogsStand : Type 0
BothLogsStand =
    (ttls : Ttls) (queued : List QueueRecord) (kept : List StoreRecord) (history : History) → IsPlain ttls history → QueueTells queued history → StoreTells ttls kept history
    → IsQueueLog queued → Stands ttls queued kept history

-- If the store has a command's change and the queue doesn't have its Done yet, the logs stand for the history with the command
-- applied.
abbrev pub AChangeStandsBeforeItsDone : Type 0
AChangeStandsBeforeItsDone =
    (ttls : Ttls) (queued : List QueueRecord) (kept : List StoreRecord) (r : ℕ) (t : Option ℤ) (history : History) → IsPlain ttls history → IsLegal ttls (Apply r t ∷ history)
    → QueueTells queued history → StoreTells ttls kept history → IsQueueLog queued → Stands ttls queued (kept ++ store_part (Apply r t) history) (Apply r t ∷ history)

-- the logs still stand for that history once the Done is written
abbrev pub DonesAreMended : Type 0
DonesAreMended =
    (ttls : Ttls) (queued : List QueueRecord) (kept : List StoreRecord) (history : History) → Stands ttls queued kept history → (missing : MissesDone queued kept history)
    → Stands ttls (queued ++ queue.Done missing.receipt ∷ []) kept history

-- a restart leaves the records as they are
abbrev pub RestartsLeaveTheRecords : Type 0
RestartsLeaveTheRecords =
    (ttls : Ttls) (queued : List QueueRecord) (kept : List StoreRecord) (history : History) → Stands ttls queued kept history → Stands ttls queued kept (Restart ∷ history)

-- ---- what is pending

-- a receipt is pending by the rule of damage exactly if replaying the records finds it pending
abbrev pub WhatWaitsIsTold : Type 0
WhatWaitsIsTold =
    (records : List QueueRecord) (r : ℕ) → IsQueueLog records → AllByRecursion IsQueueRecord records
    → Waits r (reverse records) ↔ Contains (map (λ (e : Entry). e.receipt) (pending_after records [])) r
