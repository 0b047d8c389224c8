-- What a submit does.
use Rattle.std.specs.Prelude.{◌≡◌, ◌≢◌, ◌⊎◌, ℕ, ◌+◌, ◌-◌, ◌^◌, ◌<◌, ◌≤◌, Bool, true, false, List, [], ◌∷◌, ◌++◌, length, IsTrue}
use Rattle.core_state.specs.fleet_keeper.declared.keeper.Keeper as keeper
use Rattle.core_state.specs.fleet_ports.declared.disk.Disk as disk
use Rattle.core_state.specs.fleet_rows.declared.command.Command.{Command}
use Rattle.core_state.specs.record_spec.declared.queue.QueueRecord.TheVariants as queue
use Rattle.core_state.specs.record_spec.Queue.{queue_text}
use Rattle.core_state.specs.log_spec.Limits.{most_log}
use Rattle.core_state.specs.fleet_keeper.declared.kept.Kept.{Kept}
use Rattle.core_state.specs.fleet_keeper.declared.kept.Kept.TheVariants as kept
use Rattle.core_state.specs.fleet_keeper.Kept.{IsFaulty}
use Rattle.core_state.specs.fleet_keeper.Limits.{IsPast}
use Rattle.core_state.specs.fleet_keeper.Records.{with_one}
use Rattle.core_state.specs.core_spec.declared.entry.Entry.{Entry}
use Rattle.core_state.specs.core_spec.declared.event.Event.TheVariants.{Submit}
use Rattle.core_state.specs.core_spec.History.{History}
use Rattle.core_state.specs.core_machine.Steps.{new_entry}
use Rattle.core_state.specs.supersede_core.Waiting.{payload_bytes}
use Rattle.core_state.specs.queue_log.Queued.{queued, queue_down, queue_size}
use Rattle.core_state.specs.declared.state.CoreState.{CoreState}
use Rattle.core_state.specs.Changes.{OthersStay, MemoryStays, CoreStays}
use Rattle.core_state.specs.Puts.{HasPut}
use Rattle.core_state.specs.Seen.{down_of}
use Rattle.fleet_rows.specs.declared.submitted.Submitted.{Submitted}
use Rattle.fleet_rows.specs.declared.submitted.Submitted.TheVariants as submitted
use Rattle.fleet_rows.specs.Limits.{most_pending, most_pending_bytes}

-- ---- what the caller learns

-- 262,144 commands are pending, or their payloads with this one would exceed 1,073,741,824 bytes
abbrev pub IsFull : ℕ → List Entry → Type 0
IsFull payload es = (most_pending ≤ length es) ⊎ (most_pending_bytes < payload_bytes es + payload)

-- no receipt is left, or the queue's log has no room for the record
abbrev pub IsSpent : {D K : Type 0} → Command → CoreState D K → Type 0
IsSpent c core = (core.last ≡ 2 ^ 64 - 1) ⊎ IsPast (queue_size core.queue) (queue_text (queue.Submit (core.last + 1) c))

-- the event of the command's record, under the receipt after the last one
abbrev pub IsSubmitOf : ℕ → Command → History → History → Type 0
IsSubmitOf last c upto begun = begun ≡ Submit (last + 1) c ∷ []

-- a receipt is the next one and adds the command's event; any other answer adds none
abbrev pub SubmitAdds : Submitted → Command → ℕ → History → History → Type 0
SubmitAdds (submitted.Receipt r) c last old new = (r ≡ last + 1) × (new ≡ Submit r c ∷ old)
SubmitAdds submitted.Full c last old new = new ≡ old
SubmitAdds submitted.QueueFault c last old new = new ≡ old
SubmitAdds submitted.Spent c last old new = new ≡ old
SubmitAdds submitted.Down c last old new = new ≡ old
SubmitAdds submitted.Memory c last old new = new ≡ old

-- the answers that leave everything unchanged
abbrev pub IsRefusal : Submitted → Type 0
IsRefusal (submitted.Receipt r) = ⊥
IsRefusal submitted.Full = Unit {0}
IsRefusal submitted.QueueFault = ⊥
IsRefusal submitted.Spent = Unit {0}
IsRefusal submitted.Down = Unit {0}
IsRefusal submitted.Memory = Unit {0}

-- after a receipt the command is pending behind the others; any other answer leaves the pending commands
abbrev pub SubmitWaits : Submitted → Command → List Entry → List Entry → Type 0
SubmitWaits (submitted.Receipt r) c old new = new ≡ old ++ new_entry r c ∷ []
SubmitWaits submitted.Full c old new = new ≡ old
SubmitWaits submitted.QueueFault c old new = new ≡ old
SubmitWaits submitted.Spent c old new = new ≡ old
SubmitWaits submitted.Down c old new = new ≡ old
SubmitWaits submitted.Memory c old new = new ≡ old

-- ---- what is written

abbrev pub refused_as : Kept → Submitted
refused_as kept.Ok = submitted.QueueFault
refused_as kept.Failed = submitted.QueueFault
refused_as kept.Down = submitted.QueueFault
refused_as kept.Memory = submitted.Memory
refused_as kept.Spent = submitted.Spent

pub record TookIn {D K : Type 0} (tells : Bool) (seen : D → List ℕ) (may_leave : D → List ℕ → Type 0) (moment : D → ℕ) (left_since : D → ℕ → List ℕ → Type 0) (faults : D → ℕ) (c : Command) (old new : CoreState D K) : Type 0 where
  pub put : HasPut tells seen may_leave moment left_since faults kept.Ok old.queue new.queue (queue.Submit (old.last + 1) c)
  pub store : new.store ≡ old.store
  pub others : OthersStay old new
  pub pending : new.pending ≡ old.pending ++ new_entry (old.last + 1) c ∷ []
  pub events : new.events.list ≡ Submit (old.last + 1) c ∷ old.events.list
  pub room : length old.pending ≤ new.events.room
  pub last : new.last ≡ old.last + 1

-- the record wasn't written, and nothing is held
pub record WasRefused {D K : Type 0} (tells : Bool) (seen : D → List ℕ) (may_leave : D → List ℕ → Type 0) (moment : D → ℕ) (left_since : D → ℕ → List ℕ → Type 0) (faults : D → ℕ) (answer : Kept) (c : Command) (old new : CoreState D K) : Type 0 where
  pub put : HasPut tells seen may_leave moment left_since faults answer old.queue new.queue (queue.Submit (old.last + 1) c)
  pub store : new.store ≡ old.store
  pub memory : MemoryStays old new

abbrev pub Takes : {D K : Type 0} → Bool → (D → List ℕ) → (D → List ℕ → Type 0) → (D → ℕ) → (D → ℕ → List ℕ → Type 0) → (D → ℕ) → Submitted → Command → CoreState D K → CoreState D K → Type 0
Takes tells seen may_leave moment left_since faults (submitted.Receipt r) c old new = (r ≡ old.last + 1) × TookIn tells seen may_leave moment left_since faults c old new
Takes tells seen may_leave moment left_since faults submitted.Full c old new = ⊥
Takes tells seen may_leave moment left_since faults submitted.QueueFault c old new = (answer : Kept) × IsFaulty answer × WasRefused tells seen may_leave moment left_since faults answer c old new
Takes tells seen may_leave moment left_since faults submitted.Spent c old new = IsPast (queue_size old.queue) (queue_text (queue.Submit (old.last + 1) c)) × CoreStays old new
Takes tells seen may_leave moment left_since faults submitted.Down c old new = ⊥
Takes tells seen may_leave moment left_since faults submitted.Memory c old new = CoreStays old new

-- the same, with the ghosts of the trait as one value
abbrev pub DoesTake : {D K : Type 0} → disk.Ghosts D → Submitted → Command → CoreState D K → CoreState D K → Type 0
DoesTake d = Takes d.is_told d.seen d.may_leave d.moment d.left_since d.fault_count

-- the core is up, and no limit is reached
pub record IsOpen {D K : Type 0} (keeper_down : K → Bool) (c : Command) (core : CoreState D K) : Type 0 where
  pub up : down_of keeper_down core ≡ false
  pub room : IsFull (length c.payload) core.pending → ⊥

abbrev pub SubmitDoes : {D K : Type 0} → Bool → (D → List ℕ) → (D → List ℕ → Type 0) → (D → ℕ) → (D → ℕ → List ℕ → Type 0) → (D → ℕ) → (K → Bool) → Submitted → Command → CoreState D K → CoreState D K → Type 0
SubmitDoes tells seen may_leave moment left_since faults keeper_down (submitted.Receipt r) c old new =
    IsOpen keeper_down c old × (old.last ≢ 2 ^ 64 - 1) × (r ≡ old.last + 1) × TookIn tells seen may_leave moment left_since faults c old new
SubmitDoes tells seen may_leave moment left_since faults keeper_down submitted.Full c old new = (down_of keeper_down old ≡ false) × IsFull (length c.payload) old.pending × (new ≡ old)
SubmitDoes tells seen may_leave moment left_since faults keeper_down submitted.QueueFault c old new =
    IsOpen keeper_down c old × (old.last ≢ 2 ^ 64 - 1) × ((answer : Kept) × IsFaulty answer × WasRefused tells seen may_leave moment left_since faults answer c old new)
SubmitDoes tells seen may_leave moment left_since faults keeper_down submitted.Spent c old new = IsOpen keeper_down c old × IsSpent c old × CoreStays old new
SubmitDoes tells seen may_leave moment left_since faults keeper_down submitted.Down c old new = (down_of keeper_down old ≡ true) × (new ≡ old)
SubmitDoes tells seen may_leave moment left_since faults keeper_down submitted.Memory c old new = IsOpen keeper_down c old × CoreStays old new

-- the same, with the ghosts of each trait as one value
abbrev pub DoesSubmit : {D K : Type 0} → disk.Ghosts D → keeper.Ghosts K → Submitted → Command → CoreState D K → CoreState D K → Type 0
DoesSubmit d k = SubmitDoes d.is_told d.seen d.may_leave d.moment d.left_since d.fault_count k.down

-- After a receipt, the log has the command's record at its end, grew by its frame, and has at most 2^62 bytes. After any other
-- answer the log's size is unchanged, and so are its records, if the log isn't down.
abbrev pub SubmitWrites : {D K : Type 0} → Bool → (D → List ℕ) → Submitted → Command → CoreState D K → CoreState D K → Type 0
SubmitWrites tells seen (submitted.Receipt r) c old new =
    (new.last ≡ r) × (queue_size new.queue ≡ queue_size old.queue + 5 + length (queue_text (queue.Submit r c))) × (IsTrue tells → queued seen new.queue ≡ with_one (queued seen old.queue) (queue.Submit r c))
    × (queue_size new.queue ≤ most_log)
SubmitWrites tells seen _ c old new =
    (new.last ≡ old.last) × (queue_size new.queue ≡ queue_size old.queue) × (queue_down new.queue ≡ false → IsTrue tells → queued seen new.queue ≡ queued seen old.queue)
