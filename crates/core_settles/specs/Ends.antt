-- How a claimed command ends, in memory and by the answers of the logs.
use Rattle.std.specs.Prelude.{◌≡◌, ◌≢◌, ℕ, suc, ◌+◌, ◌<◌, ◌≤◌, ◌^◌, Bool, true, false, List, [], ◌∷◌, ◌++◌, length, flat_map, Option, Some}
use Rattle.core_claims.specs.fleet_keeper.declared.keeper.Keeper as keeper
use Rattle.core_claims.specs.fleet_ports.declared.disk.Disk as disk
use Rattle.core_claims.specs.fleet_rows.declared.change.Change.{Change}
use Rattle.core_claims.specs.fleet_rows.declared.refusal.Cause.{Cause}
use Rattle.core_claims.specs.fleet_rows.declared.refusal.Cause.TheVariants as cause
use Rattle.core_claims.specs.fleet_rows.declared.refusal.Refusal.{Refusal}
use Rattle.core_claims.specs.history_spec.Trace.{Trace, IsTrace, applied, applied_as}
use Rattle.core_claims.specs.table_machine.Steps.{apply}
use Rattle.core_claims.specs.fleet_tables.Stands.{Stands}
use Rattle.core_claims.specs.record_spec.declared.queue.QueueRecord.TheVariants as queue
use Rattle.core_claims.specs.record_spec.declared.store.StoreRecord.{StoreRecord}
use Rattle.core_claims.specs.record_spec.declared.store.StoreRecord.TheVariants as store
use Rattle.core_claims.specs.fleet_keeper.declared.kept.Kept.{Kept}
use Rattle.core_claims.specs.fleet_keeper.declared.kept.Kept.TheVariants as kept
use Rattle.core_claims.specs.core_spec.declared.dead.Dead.{Dead}
use Rattle.core_claims.specs.core_spec.declared.event.Event.TheVariants.{Release, Apply, Fail, Discard}
use Rattle.core_claims.specs.core_spec.Discards.{put_dead}
use Rattle.core_claims.specs.core_spec.History.{History}
use Rattle.core_claims.specs.core_spec.Pending.{NoneIsWornOut}
use Rattle.core_claims.specs.core_machine.Claims.{attempts_of, is_claimed}
use Rattle.core_claims.specs.core_machine.Steps.{marked, failed, at_receipt}
use Rattle.core_claims.specs.queue_log.Queued.{queue_size}
use Rattle.core_claims.specs.declared.job.Job.{Job}
use Rattle.core_claims.specs.core_state.declared.state.CoreState.{CoreState}
use Rattle.core_claims.specs.core_state.Changes.{OthersStay, MemoryStays, CoreStays}
use Rattle.core_claims.specs.core_state.Puts.{HasPut, HasKept, StoreStays}
use Rattle.core_claims.specs.core_state.Seen.{down_of}
use Rattle.core_settles.specs.declared.answers.Settled.{Settled}
use Rattle.core_settles.specs.declared.answers.Settled.TheVariants as settled
use Rattle.core_settles.specs.declared.answers.Verdict.{Verdict}
use Rattle.core_settles.specs.declared.answers.Verdict.TheVariants as verdict
use Rattle.core_claims.specs.core_state.log_spec.Limits.{most_log}

-- ---- in memory

-- a claimed command is queued again
pub record HasFreed {D K : Type 0} (r : ℕ) (old new : CoreState D K) : Type 0 where
  pub others : OthersStay old new
  pub pending : new.pending ≡ flat_map (at_receipt r (λ e. marked false e ∷ [])) old.pending
  pub events : new.events.list ≡ Release r ∷ old.events.list
  pub room : old.events.room ≤ new.events.room + 1
  pub last : new.last ≡ old.last

pub record WasFreed {D K : Type 0} (r : ℕ) (old new : CoreState D K) : Type 0 where
  pub queue : new.queue ≡ old.queue
  pub store : new.store ≡ old.store
  pub freed : HasFreed r old new

abbrev pub dead_of : Job → Cause → Dead
dead_of job why = record { receipt = job.receipt; command = job.command; cause = why }

-- a claimed command is discarded, with these events
pub record HasDiscarded {D K : Type 0} (dead : Dead) (more : History) (old new : CoreState D K) : Type 0 where
  pub tables : new.tables ≡ old.tables
  pub dead_is : new.discards.list ≡ put_dead dead old.discards.list
  pub undone : new.undone ≡ old.undone
  pub found : new.found ≡ old.found
  pub opened_a : new.opened_a ≡ old.opened_a
  pub opened_b : new.opened_b ≡ old.opened_b
  pub pending : new.pending ≡ flat_map (at_receipt dead.receipt (λ e. [])) old.pending
  pub events : new.events.list ≡ more ++ old.events.list
  pub room : length old.pending ≤ new.events.room
  pub last : new.last ≡ old.last

pub record WasDiscarded {D K : Type 0} (dead : Dead) (more : History) (old new : CoreState D K) : Type 0 where
  pub queue : new.queue ≡ old.queue
  pub store : new.store ≡ old.store
  pub discarded : HasDiscarded dead more old new

-- a claimed command is applied
pub record HasApplied {D K : Type 0} (job : Job) (change : Change) (undone : Bool) (old new : CoreState D K) : Type 0 where
  pub tables : new.tables ≡ apply (applied_as job.receipt (Some job.command.received) change) old.tables
  pub stands : (trace : Trace) → Stands old.tables trace → IsTrace (applied (applied_as job.receipt (Some job.command.received) change) ∷ trace)
      → Stands new.tables (applied (applied_as job.receipt (Some job.command.received) change) ∷ trace)
  pub dead : new.discards.list ≡ old.discards.list
  pub undone_is : new.undone ≡ undone
  pub found : new.found ≡ old.found
  pub opened_a : new.opened_a ≡ old.opened_a
  pub opened_b : new.opened_b ≡ old.opened_b
  pub pending : new.pending ≡ flat_map (at_receipt job.receipt (λ e. [])) old.pending
  pub events : new.events.list ≡ Apply job.receipt (Some job.command.received) ∷ old.events.list
  pub room : length old.pending ≤ new.events.room
  pub last : new.last ≡ old.last

pub record WasApplied {D K : Type 0} (job : Job) (change : Change) (old new : CoreState D K) : Type 0 where
  pub queue : new.queue ≡ old.queue
  pub store : new.store ≡ old.store
  pub applied : HasApplied job change old.undone old new

-- a failure is counted, and the command is queued again
pub record HasFailed {D K : Type 0} (r before after : ℕ) (old new : CoreState D K) : Type 0 where
  pub few : NoneIsWornOut new.pending
  pub others : OthersStay old new
  pub pending : new.pending ≡ flat_map (at_receipt r (λ e. failed e ∷ [])) old.pending
  pub events : new.events.list ≡ Fail r before after ∷ old.events.list
  pub room : length old.pending ≤ new.events.room
  pub last : new.last ≡ old.last

pub record WasFailed {D K : Type 0} (r before after : ℕ) (old new : CoreState D K) : Type 0 where
  pub queue : new.queue ≡ old.queue
  pub store : new.store ≡ old.store
  pub failed : HasFailed r before after old new

abbrev pub CountDoes : {D K : Type 0} → Settled → Job → ℕ → ℕ → CoreState D K → CoreState D K → Type 0
CountDoes (settled.Failed n) job before after old new = (n ≡ suc (attempts_of job.receipt old.pending)) × (attempts_of job.receipt old.pending < 15) × WasFailed job.receipt before after old new
CountDoes settled.Discarded job before after old new =
    (attempts_of job.receipt old.pending ≡ 15) × WasDiscarded (dead_of job cause.Failures) (Discard job.receipt cause.Failures ∷ Fail job.receipt before after ∷ []) old new
CountDoes _ job before after old new = ⊥

-- the result for a refused command, by the answer of the queue's log
abbrev pub EndDoes : {D K : Type 0} → Settled → Kept → Job → Refusal → CoreState D K → CoreState D K → Type 0
EndDoes came kept.Ok job refusal old new = (came ≡ settled.Discarded) × WasDiscarded (dead_of job (cause.Refused refusal)) (Discard job.receipt (cause.Refused refusal) ∷ []) old new
EndDoes came kept.Down job refusal old new = (came ≡ settled.QueueFault) × (new ≡ old)
EndDoes came kept.Memory job refusal old new = (came ≡ settled.Memory job (verdict.Refused refusal)) × (new ≡ old)
EndDoes came kept.Failed job refusal old new = (came ≡ settled.QueueFault) × WasFreed job.receipt old new
EndDoes came kept.Spent job refusal old new = (came ≡ settled.Spent) × WasFreed job.receipt old new

-- ---- with the queue's log

-- the record of a failure is written, or not
pub data FailDoes {D K : Type 0} (tells : Bool) (seen : D → List ℕ) (may_leave : D → List ℕ → Type 0) (moment : D → ℕ) (left_since : D → ℕ → List ℕ → Type 0) (faults : D → ℕ) (came : Settled) (job : Job) (before after : ℕ) (old new : CoreState D K) : Type 0 where
  again : (n : ℕ) → came ≡ settled.Failed n → HasPut tells seen may_leave moment left_since faults kept.Ok old.queue new.queue (queue.Fail job.receipt before after) → new.store ≡ old.store
      → n ≡ suc (attempts_of job.receipt old.pending) → attempts_of job.receipt old.pending < 15 → HasFailed job.receipt before after old new → FailDoes tells seen may_leave moment left_since faults came job before after old new
  last : came ≡ settled.Discarded → HasPut tells seen may_leave moment left_since faults kept.Ok old.queue new.queue (queue.Fail job.receipt before after) → new.store ≡ old.store → attempts_of job.receipt old.pending ≡ 15
      → HasDiscarded (dead_of job cause.Failures) (Discard job.receipt cause.Failures ∷ Fail job.receipt before after ∷ []) old new → FailDoes tells seen may_leave moment left_since faults came job before after old new
  unput : (answer : Kept) → came ≡ settled.QueueFault → (answer ≢ kept.Ok) → (answer ≢ kept.Down) → (answer ≢ kept.Memory) → HasPut tells seen may_leave moment left_since faults answer old.queue new.queue (queue.Fail job.receipt before after) → new.store ≡ old.store
      → HasFreed job.receipt old new → FailDoes tells seen may_leave moment left_since faults came job before after old new
  left_open : came ≡ settled.QueueFault → HasPut tells seen may_leave moment left_since faults kept.Down old.queue new.queue (queue.Fail job.receipt before after) → new.store ≡ old.store → MemoryStays old new → FailDoes tells seen may_leave moment left_since faults came job before after old new

-- the same, with the ghosts of the trait as one value
abbrev pub DoesFail : {D K : Type 0} → disk.Ghosts D → Settled → Job → ℕ → ℕ → CoreState D K → CoreState D K → Type 0
DoesFail d = FailDoes d.is_told d.seen d.may_leave d.moment d.left_since d.fault_count

-- the record of a refusal is written, or not, or there is no memory for it
pub data RefuseDoes {D K : Type 0} (tells : Bool) (seen : D → List ℕ) (may_leave : D → List ℕ → Type 0) (moment : D → ℕ) (left_since : D → ℕ → List ℕ → Type 0) (faults : D → ℕ) (came : Settled) (job : Job) (refusal : Refusal) (old new : CoreState D K) : Type 0 where
  no_memory : came ≡ settled.Memory job (verdict.Refused refusal) → CoreStays old new → RefuseDoes tells seen may_leave moment left_since faults came job refusal old new
  refused : came ≡ settled.Discarded → HasPut tells seen may_leave moment left_since faults kept.Ok old.queue new.queue (queue.Refused job.receipt refusal) → new.store ≡ old.store
      → HasDiscarded (dead_of job (cause.Refused refusal)) (Discard job.receipt (cause.Refused refusal) ∷ []) old new → RefuseDoes tells seen may_leave moment left_since faults came job refusal old new
  spent : came ≡ settled.Spent → HasPut tells seen may_leave moment left_since faults kept.Spent old.queue new.queue (queue.Refused job.receipt refusal) → new.store ≡ old.store → HasFreed job.receipt old new → RefuseDoes tells seen may_leave moment left_since faults came job refusal old new
  unput : came ≡ settled.QueueFault → HasPut tells seen may_leave moment left_since faults kept.Failed old.queue new.queue (queue.Refused job.receipt refusal) → new.store ≡ old.store → HasFreed job.receipt old new → RefuseDoes tells seen may_leave moment left_since faults came job refusal old new
  left_open : came ≡ settled.QueueFault → HasPut tells seen may_leave moment left_since faults kept.Down old.queue new.queue (queue.Refused job.receipt refusal) → new.store ≡ old.store → MemoryStays old new → RefuseDoes tells seen may_leave moment left_since faults came job refusal old new

-- the same, with the ghosts of the trait as one value
abbrev pub DoesRefuse : {D K : Type 0} → disk.Ghosts D → Settled → Job → Refusal → CoreState D K → CoreState D K → Type 0
DoesRefuse d = RefuseDoes d.is_told d.seen d.may_leave d.moment d.left_since d.fault_count

-- the Done of a command is written, or not
pub data FinishDoes {D K : Type 0} (tells : Bool) (seen : D → List ℕ) (may_leave : D → List ℕ → Type 0) (moment : D → ℕ) (left_since : D → ℕ → List ℕ → Type 0) (faults : D → ℕ) (came : Settled) (job : Job) (change : Change) (old new : CoreState D K) : Type 0 where
  done : came ≡ settled.Applied → HasPut tells seen may_leave moment left_since faults kept.Ok old.queue new.queue (queue.Done job.receipt) → new.store ≡ old.store → HasApplied job change old.undone old new → FinishDoes tells seen may_leave moment left_since faults came job change old new
  undone : (answer : Kept) → came ≡ settled.QueueFault → (answer ≢ kept.Ok) → (answer ≢ kept.Memory) → HasPut tells seen may_leave moment left_since faults answer old.queue new.queue (queue.Done job.receipt) → new.store ≡ old.store
      → HasApplied job change true old new → FinishDoes tells seen may_leave moment left_since faults came job change old new

-- the same, with the ghosts of the trait as one value
abbrev pub DoesFinish : {D K : Type 0} → disk.Ghosts D → Settled → Job → Change → CoreState D K → CoreState D K → Type 0
DoesFinish d = FinishDoes d.is_told d.seen d.may_leave d.moment d.left_since d.fault_count

-- the result by the store's answer
abbrev pub AfterDoes : {D K : Type 0} → Bool → (D → List ℕ) → (D → List ℕ → Type 0) → (D → ℕ) → (D → ℕ → List ℕ → Type 0) → (D → ℕ) → (K → ℕ) → Settled → Kept → Job → Change → ℕ → CoreState D K → CoreState D K → Type 0
AfterDoes tells seen may_leave moment left_since faults store_faults came kept.Ok job change before old new = FinishDoes tells seen may_leave moment left_since faults came job change old new
AfterDoes tells seen may_leave moment left_since faults store_faults came kept.Failed job change before old new = (store_faults old.store < 2 ^ 64) × FailDoes tells seen may_leave moment left_since faults came job before (store_faults old.store) old new
AfterDoes tells seen may_leave moment left_since faults store_faults came kept.Down job change before old new = (came ≡ settled.StoreDown) × (new ≡ old)
AfterDoes tells seen may_leave moment left_since faults store_faults came kept.Memory job change before old new = (came ≡ settled.Memory job (verdict.Change change)) × (new ≡ old)
AfterDoes tells seen may_leave moment left_since faults store_faults came kept.Spent job change before old new = (came ≡ settled.Spent) × WasFreed job.receipt old new

-- the same, with the ghosts of each trait as one value
abbrev pub DoesAfter : {D K : Type 0} → disk.Ghosts D → keeper.Ghosts K → Settled → Kept → Job → Change → ℕ → CoreState D K → CoreState D K → Type 0
DoesAfter d k = AfterDoes d.is_told d.seen d.may_leave d.moment d.left_since d.fault_count k.fault_count

-- ---- with both logs

-- The change is kept in the store, and the command ends by the answer. `mid` is the core after the store's answer.
pub record StoreDoes {D K : Type 0} (tells store_tells : Bool) (seen : D → List ℕ) (may_leave : D → List ℕ → Type 0) (moment : D → ℕ) (left_since : D → ℕ → List ℕ → Type 0) (faults : D → ℕ) (kept_in : K → Option (List StoreRecord)) (images : K → Option (List StoreRecord) → Type 0) (store_moment : K → ℕ × ℕ) (images_since : K → ℕ × ℕ → Option (List StoreRecord) → Type 0) (store_up : K → Type 0) (store_down : K → Bool) (store_size : K → ℕ) (store_stays : K → K → Type 0) (store_faults : K → ℕ) (came : Settled) (job : Job) (change : Change) (old new : CoreState D K) : Type 0 where
  pub answer : Kept
  pub mid : CoreState D K
  pub queue : mid.queue ≡ old.queue
  pub memory : MemoryStays old mid
  pub kept : HasKept store_tells kept_in images store_moment images_since store_up store_down store_size store_stays store_faults answer old.store mid.store (store.Received job.receipt (Some job.command.received) change)
  pub after : AfterDoes tells seen may_leave moment left_since faults store_faults came answer job change (store_faults old.store) mid new

-- the same, with the ghosts of each trait as one value
abbrev pub DoesStore : {D K : Type 0} → disk.Ghosts D → keeper.Ghosts K → Settled → Job → Change → CoreState D K → CoreState D K → Type 0
DoesStore d k = StoreDoes d.is_told k.is_told d.seen d.may_leave d.moment d.left_since d.fault_count k.kept k.images k.moment k.images_since k.is_up k.down k.size (StoreStays k) k.fault_count

pub data KeepDoes {D K : Type 0} (tells store_tells : Bool) (seen : D → List ℕ) (may_leave : D → List ℕ → Type 0) (moment : D → ℕ) (left_since : D → ℕ → List ℕ → Type 0) (faults : D → ℕ) (kept_in : K → Option (List StoreRecord)) (images : K → Option (List StoreRecord) → Type 0) (store_moment : K → ℕ × ℕ) (images_since : K → ℕ × ℕ → Option (List StoreRecord) → Type 0) (store_up : K → Type 0) (store_down : K → Bool) (store_size : K → ℕ) (store_stays : K → K → Type 0) (store_faults : K → ℕ) (came : Settled) (job : Job) (change : Change) (old new : CoreState D K) : Type 0 where
  no_room : came ≡ settled.Spent → most_log < queue_size old.queue + 5 + 25 → WasFreed job.receipt old new → KeepDoes tells store_tells seen may_leave moment left_since faults kept_in images store_moment images_since store_up store_down store_size store_stays store_faults came job change old new
  no_memory : came ≡ settled.Memory job (verdict.Change change) → CoreStays old new → KeepDoes tells store_tells seen may_leave moment left_since faults kept_in images store_moment images_since store_up store_down store_size store_stays store_faults came job change old new
  stored : queue_size old.queue + 5 + 25 ≤ most_log → StoreDoes tells store_tells seen may_leave moment left_since faults kept_in images store_moment images_since store_up store_down store_size store_stays store_faults came job change old new → KeepDoes tells store_tells seen may_leave moment left_since faults kept_in images store_moment images_since store_up store_down store_size store_stays store_faults came job change old new

-- the same, with the ghosts of each trait as one value
abbrev pub DoesKeep : {D K : Type 0} → disk.Ghosts D → keeper.Ghosts K → Settled → Job → Change → CoreState D K → CoreState D K → Type 0
DoesKeep d k = KeepDoes d.is_told k.is_told d.seen d.may_leave d.moment d.left_since d.fault_count k.kept k.images k.moment k.images_since k.is_up k.down k.size (StoreStays k) k.fault_count

abbrev pub WorkDoes : {D K : Type 0} → Bool → Bool → (D → List ℕ) → (D → List ℕ → Type 0) → (D → ℕ) → (D → ℕ → List ℕ → Type 0) → (D → ℕ) → (K → Option (List StoreRecord)) → (K → Option (List StoreRecord) → Type 0) → (K → ℕ × ℕ) → (K → ℕ × ℕ → Option (List StoreRecord) → Type 0) → (K → Type 0) → (K → Bool) → (K → ℕ) → (K → K → Type 0) → (K → ℕ) → Settled → Job → Verdict → CoreState D K → CoreState D K → Type 0
WorkDoes tells store_tells seen may_leave moment left_since faults kept_in images store_moment images_since store_up store_down store_size store_stays store_faults came job (verdict.Change change) old new = KeepDoes tells store_tells seen may_leave moment left_since faults kept_in images store_moment images_since store_up store_down store_size store_stays store_faults came job change old new
WorkDoes tells store_tells seen may_leave moment left_since faults kept_in images store_moment images_since store_up store_down store_size store_stays store_faults came job (verdict.Refused refusal) old new = RefuseDoes tells seen may_leave moment left_since faults came job refusal old new

-- ---- the whole settle

pub data SettleDoes {D K : Type 0} (tells store_tells : Bool) (seen : D → List ℕ) (may_leave : D → List ℕ → Type 0) (moment : D → ℕ) (left_since : D → ℕ → List ℕ → Type 0) (faults : D → ℕ) (kept_in : K → Option (List StoreRecord)) (images : K → Option (List StoreRecord) → Type 0) (store_moment : K → ℕ × ℕ) (images_since : K → ℕ × ℕ → Option (List StoreRecord) → Type 0) (store_up : K → Type 0) (store_down : K → Bool) (store_size : K → ℕ) (store_stays : K → K → Type 0) (store_faults : K → ℕ) (came : Settled) (job : Job) (v : Verdict) (old new : CoreState D K) : Type 0 where
  was_down : came ≡ settled.Down → down_of store_down old ≡ true → new ≡ old → SettleDoes tells store_tells seen may_leave moment left_since faults kept_in images store_moment images_since store_up store_down store_size store_stays store_faults came job v old new
  not_claimed : came ≡ settled.NotClaimed → down_of store_down old ≡ false → is_claimed job.receipt old.pending ≡ false → new ≡ old → SettleDoes tells store_tells seen may_leave moment left_since faults kept_in images store_moment images_since store_up store_down store_size store_stays store_faults came job v old new
  worked : down_of store_down old ≡ false → is_claimed job.receipt old.pending ≡ true → WorkDoes tells store_tells seen may_leave moment left_since faults kept_in images store_moment images_since store_up store_down store_size store_stays store_faults came job v old new → SettleDoes tells store_tells seen may_leave moment left_since faults kept_in images store_moment images_since store_up store_down store_size store_stays store_faults came job v old new

-- the same, with the ghosts of each trait as one value
abbrev pub DoesSettle : {D K : Type 0} → disk.Ghosts D → keeper.Ghosts K → Settled → Job → Verdict → CoreState D K → CoreState D K → Type 0
DoesSettle d k = SettleDoes d.is_told k.is_told d.seen d.may_leave d.moment d.left_since d.fault_count k.kept k.images k.moment k.images_since k.is_up k.down k.size (StoreStays k) k.fault_count
