-- Which records of the two logs stand for a history. Records are listed oldest first, events newest first.
use Rattle.std.specs.Prelude.{◌≡◌, ◌≢◌, ◌⊎◌, ℕ, ℤ, List, [], ◌∷◌, ◌++◌, Option, Some, None, Result, Ok}
use Rattle.table_spec.specs.fleet_rows.declared.change.Change.{Change}
use Rattle.table_spec.specs.fleet_rows.declared.refusal.Cause.{Cause}
use Rattle.table_spec.specs.fleet_rows.declared.refusal.Cause.TheVariants as cause
use Rattle.table_spec.specs.fleet_rows.declared.refusal.Refusal.{Refusal}
use Rattle.table_spec.specs.fleet_rows.declared.settings.Ttls.{Ttls}
use Rattle.record_spec.specs.declared.queue.QueueRecord.{QueueRecord}
use Rattle.record_spec.specs.declared.queue.QueueRecord.TheVariants as queue
use Rattle.record_spec.specs.declared.store.StoreRecord.{StoreRecord}
use Rattle.record_spec.specs.declared.store.StoreRecord.TheVariants as store
use Rattle.core_spec.specs.declared.event.Event.{Event}
use Rattle.core_spec.specs.declared.event.Event.TheVariants.{Submit, Claim, Release, Apply, Supersede, Fail, Discard, Sweep, Restart}
use Rattle.core_spec.specs.Checkpoints.{queue_checkpoint, IsStoreCheckpoint}
use Rattle.core_spec.specs.Damage.{IsQueueLog, IsStoreLog}
use Rattle.core_spec.specs.History.{History, standing, applied, answer}
use Rattle.core_spec.specs.Legal.{IsLegal}
use Rattle.core_spec.specs.Pending.{pending_of, NoneIsWornOut}

-- ---- the queue

abbrev pub discard_part : ℕ → Cause → List QueueRecord
discard_part r (cause.Refused refusal) = queue.Refused r refusal ∷ []
discard_part r cause.Failures = []

-- the records that an event leaves in the queue. The sixteenth failure also records the discard
abbrev pub queue_part : Event → List QueueRecord
queue_part (Submit r c) = queue.Submit r c ∷ []
queue_part (Claim r) = []
queue_part (Release r) = []
queue_part (Apply r t) = queue.Done r ∷ []
queue_part (Supersede q p) = queue.Superseded q p ∷ []
queue_part (Fail r before after) = queue.Fail r before after ∷ []
queue_part (Discard r why) = discard_part r why
queue_part (Sweep kinds m) = []
queue_part Restart = []

abbrev pub queue_trace : History → List QueueRecord
queue_trace [] = []
queue_trace (e ∷ earlier) = queue_trace earlier ++ queue_part e

-- The queue's records are a checkpoint of an earlier history, followed by the records of the later events. In the earlier history
-- no pending command had failed sixteen times.
pub record QueueTells (records : List QueueRecord) (history : History) : Type 0 where
  pub later : History
  pub upto : History
  pub whole : history ≡ later ++ upto
  pub few : NoneIsWornOut (pending_of upto)
  pub says : records ≡ queue_checkpoint upto ++ queue_trace later

-- ---- the store

abbrev pub change_part : ℕ → Option ℤ → Option (Result Change Refusal) → List StoreRecord
change_part r None (Some (Ok change)) = store.Applied r change ∷ []
change_part r (Some t) (Some (Ok change)) = store.Received r (Some t) change ∷ []
change_part r t _ = []

-- the records that an event leaves in the store: an applied change, or a sweep
abbrev pub store_part : Event → History → List StoreRecord
store_part (Apply r t) earlier = change_part r t (answer r earlier)
store_part (Sweep kinds m) earlier = store.Swept kinds m ∷ []
store_part _ earlier = []

-- the store's records of all events after the earlier history `upto`
abbrev pub store_trace : History → History → List StoreRecord
store_trace upto [] = []
store_trace upto (e ∷ later) = store_trace upto later ++ store_part e (later ++ upto)

-- the store's records are a checkpoint of an earlier history, followed by the records of the later events
pub record StoreTells (ttls : Ttls) (records : List StoreRecord) (history : History) : Type 0 where
  pub later : History
  pub upto : History
  pub whole : history ≡ later ++ upto
  pub start : List StoreRecord
  pub starts : IsStoreCheckpoint ttls start upto
  pub says : records ≡ start ++ store_trace upto later

-- ---- the receipt that was applied last

abbrev pub or_else : Option ℕ → Option ℕ → Option ℕ
or_else None o = o
or_else (Some r) o = Some r

-- the receipt of the last change, or of the store's base if no change follows it
abbrev pub last_taken : List StoreRecord → Option ℕ
last_taken [] = None
last_taken (store.Base expire retain taken ∷ rest) = or_else (last_taken rest) taken
last_taken (store.Applied r c ∷ rest) = or_else (last_taken rest) (Some r)
last_taken (store.Received r t c ∷ rest) = or_else (last_taken rest) (Some r)
last_taken (_ ∷ rest) = last_taken rest

-- the queue misses exactly one record at its end: the Done of the receipt that the store applied last
pub record MissesDone (queued : List QueueRecord) (kept : List StoreRecord) (history : History) : Type 0 where
  pub receipt : ℕ
  pub taken : last_taken kept ≡ Some receipt
  pub tells : QueueTells (queued ++ queue.Done receipt ∷ []) history

-- ---- failures

abbrev pub IsGivingUp : Event → Type 0
IsGivingUp (Discard r cause.Failures) = Unit {0}
IsGivingUp _ = ⊥

-- every sixteenth failure is directly followed by its discard
abbrev pub GivesUpAtOnce : History → Type 0
GivesUpAtOnce [] = Unit {0}
GivesUpAtOnce (e ∷ earlier) = (NoneIsWornOut (pending_of earlier) ⊎ IsGivingUp e) × GivesUpAtOnce earlier

-- ---- both logs

pub record Stands (ttls : Ttls) (queued : List QueueRecord) (kept : List StoreRecord) (history : History) : Type 0 where
  pub legal : IsLegal ttls history
  pub few : NoneIsWornOut (pending_of history)
  pub at_once : GivesUpAtOnce history
  pub store : StoreTells ttls kept history
  pub queue : QueueTells queued history ⊎ MissesDone queued kept history
  -- no record of either log is damage
  pub queue_log : IsQueueLog queued
  pub store_log : IsStoreLog kept
  -- a command that was applied before the store's checkpoint has its Done
  pub done : (missing : MissesDone queued kept history) → standing missing.receipt store.upto ≢ applied
