-- What was read of the queue's log, and what its records lead to.
use Rattle.std.specs.Prelude.{◌≡◌, ℕ, ◌-◌, ◌^◌, ◌<◌, min, List, [], ◌∷◌, ◌++◌, Bool, true, false, IsTrue, length, map, reverse, None, Some, Result, Ok, Err}
use Rattle.std.specs.List.{AllByRecursion, flat_map}
use Rattle.core_state.specs.record_spec.declared.queue.QueueRecord.{QueueRecord}
use Rattle.core_state.specs.record_spec.declared.queue.QueueRecord.TheVariants as queue
use Rattle.core_state.specs.record_spec.Queue.{IsQueueRecord}
use Rattle.core_state.specs.core_spec.declared.entry.Entry.{Entry}
use Rattle.core_state.specs.core_spec.Damage.{MayQueue, AreQueued, IsQueueLog, IsDamagedFrame}
use Rattle.core_state.specs.core_spec.Pending.{NoneIsWornOut}
use Rattle.core_state.specs.core_laws.Replay.{if_few, held_entry, pending_after, dead_after, last_after}
use Rattle.core_state.specs.core_machine.Claims.{attempts_of}
use Rattle.core_state.specs.core_machine.Steps.{at_receipt, failed}
use Rattle.core_state.specs.supersede_core.Waiting.{AreBelow, Rises, stands, queued_entry}
use Rattle.core_state.specs.queue_records.Reading.{queue_at}
use Rattle.core_state.specs.fleet_keeper.Opened.{IsRead, gate_at}
use Rattle.core_state.specs.fleet_keeper.Records.{read_all}
use Rattle.core_opening.specs.declared.reading.Reading.{Reading}
use Rattle.core_opening.specs.declared.reading.SoFar.{SoFar}
use Rattle.core_opening.specs.declared.reading.UnreadQueue.{UnreadQueue}
use Rattle.core_opening.specs.declared.reading.UnreadQueue.TheVariants.{Damaged, Memory}
use Rattle.core_opening.specs.LogPrefix.{IsLogPrefix}
use Rattle.fleet_rows.specs.Limits.{most_pending}

-- none is claimed
abbrev pub AreQueuedOnly : List Entry → Type 0
AreQueuedOnly = AllByRecursion (λ (e : Entry). e.claimed ≡ false)

-- all entries of the receipt have the same number of failures
abbrev pub FailAlike : ℕ → List Entry → Type 0
FailAlike r es = AllByRecursion (λ (e : Entry). e.receipt ≡ r → e.attempts ≡ attempts_of r es) es

-- ---- while a log is read, the pending commands have no group

abbrev pub bare : Entry → Entry
bare e = record { receipt = e.receipt; command = e.command; group = None; attempts = e.attempts; claimed = e.claimed }

-- the entry, queued and in its command's group
abbrev pub grouped : Entry → Entry
grouped e = held_entry e.receipt e.attempts e.command

-- what a record does to the pending commands
abbrev pub bare_by : QueueRecord → List Entry → List Entry
bare_by (queue.Base last) es = es
bare_by (queue.Held r n c) es = es ++ queued_entry r c None n ∷ []
bare_by (queue.Dead r c why) es = es
bare_by (queue.Submit r c) es = es ++ queued_entry r c None 0 ∷ []
bare_by (queue.Done r) es = flat_map (at_receipt r (λ e. [])) es
bare_by (queue.Superseded r by) es = flat_map (at_receipt r (λ e. [])) es
bare_by (queue.Refused r refusal) es = flat_map (at_receipt r (λ e. [])) es
bare_by (queue.Fail r before after) es = flat_map (at_receipt r (λ e. if_few (failed e))) es

-- what replaying a record requires of the pending commands
abbrev pub MayReplay : QueueRecord → List Entry → Type 0
MayReplay (queue.Base last) es = Unit {0}
MayReplay (queue.Held r n c) es = AreBelow r es × (n < 16) × (length es < most_pending)
MayReplay (queue.Dead r c why) es = Unit {0}
MayReplay (queue.Submit r c) es = AreBelow r es × (length es < most_pending)
MayReplay (queue.Done r) es = IsTrue (stands r es)
MayReplay (queue.Superseded r by) es = IsTrue (stands r es)
MayReplay (queue.Refused r refusal) es = IsTrue (stands r es)
MayReplay (queue.Fail r before after) es = IsTrue (stands r es) × NoneIsWornOut es × AreQueuedOnly es × FailAlike r es

-- each record may follow those before it, and the rest is what the records lead to
pub record IsSoFar (so_far : SoFar) : Type 0 where
  pub stand : AreQueued (reverse so_far.records)
  pub lawful : AllByRecursion IsQueueRecord so_far.records
  pub pending : so_far.pending ≡ map bare (pending_after so_far.records [])
  pub rises : Rises so_far.pending
  pub discards : so_far.discards.list ≡ dead_after so_far.records [] []
  pub last : so_far.last ≡ last_after so_far.records 0
  pub front : IsLogPrefix so_far.front (reverse so_far.records)

pub record IsReading (reading : Reading) : Type 0 where
  pub stand : AreQueued (reverse reading.found.value)
  pub lawful : AllByRecursion IsQueueRecord reading.found.value
  pub pending : reading.pending ≡ pending_after reading.found.value []
  pub discards : reading.discards.list ≡ dead_after reading.found.value [] []
  pub last : reading.last ≡ last_after reading.found.value 0

-- The frame at this index is the first that can't continue a log of the queue. It is no record, or one that may not stand there;
-- or no frame is left, and the log has no base.
abbrev pub IsQueueDamaged : List (List ℕ) → ℕ → Type 0
IsQueueDamaged frames index = IsDamagedFrame IsRead AreQueued 1 (map queue_at frames) index

-- the frame is a record that may follow those so far, and the state includes it
pub record IsTaken (old : SoFar) (frame : List ℕ) (new : SoFar) : Type 0 where
  pub rec : QueueRecord
  pub is : queue_at frame ≡ Some rec
  pub may : MayQueue rec (reverse old.records)
  pub more : new.records ≡ old.records ++ rec ∷ []
  pub so_far : IsSoFar new

abbrev pub TakesFrame : Bool → SoFar → List ℕ → SoFar → Type 0
TakesFrame true old frame new = IsTaken old frame new
TakesFrame false old frame new = (x : QueueRecord) → queue_at frame ≡ Some x → MayQueue x (reverse old.records) → ⊥

-- the frames are those of a log, and this is what they lead to; otherwise the byte offset of the gate of the first damaged one
abbrev pub MatchReading : Result Reading UnreadQueue → List (List ℕ) → Type 0
MatchReading (Ok reading) frames = (read_all queue_at frames ≡ Some reading.found.value) × IsQueueLog reading.found.value × IsReading reading
MatchReading (Err (Damaged at)) frames = (index : ℕ) × IsQueueDamaged frames index × (at ≡ min (gate_at frames index) (2 ^ 64 - 1))
MatchReading (Err Memory) frames = Unit {0}
