-- What one step of a claim does.
use Rattle.std.specs.Prelude.{◌≡◌, ◌≢◌, ℕ, ◌≤◌, Bool, true, List, [], ◌∷◌, length, flat_map, Option, Some, None}
use Rattle.core_state.specs.fleet_ports.declared.disk.Disk as disk
use Rattle.core_state.specs.record_spec.declared.queue.QueueRecord.TheVariants as queue
use Rattle.core_state.specs.record_spec.Queue.{queue_text}
use Rattle.core_state.specs.fleet_keeper.declared.kept.Kept.{Kept}
use Rattle.core_state.specs.fleet_keeper.declared.kept.Kept.TheVariants as kept
use Rattle.core_state.specs.fleet_keeper.Kept.{IsFaulty}
use Rattle.core_state.specs.fleet_keeper.Limits.{IsPast}
use Rattle.core_state.specs.core_spec.declared.entry.Entry.{Entry}
use Rattle.core_state.specs.core_spec.declared.event.Event.TheVariants.{Claim, Supersede}
use Rattle.core_state.specs.core_machine.Claims.{first_candidate}
use Rattle.core_state.specs.core_machine.Steps.{marked, at_receipt}
use Rattle.core_state.specs.queue_log.Queued.{queue_size}
use Rattle.core_state.specs.declared.state.CoreState.{CoreState}
use Rattle.core_state.specs.Changes.{OthersStay, MemoryStays, CoreStays}
use Rattle.core_state.specs.Puts.{HasPut}
use Rattle.core_claims.specs.Choice.{newer_than}
use Rattle.core_claims.specs.declared.answers.Claimed.{Claimed}
use Rattle.core_claims.specs.declared.answers.Claimed.TheVariants as claimed
use Rattle.core_claims.specs.declared.job.Job.{Job}

abbrev pub refused_as : Kept → Claimed
refused_as kept.Ok = claimed.QueueFault
refused_as kept.Failed = claimed.QueueFault
refused_as kept.Down = claimed.QueueFault
refused_as kept.Memory = claimed.Memory
refused_as kept.Spent = claimed.Spent

-- the record of a superseded command was written, and its entry is gone
pub record HasSuperseded {D K : Type 0} (tells : Bool) (seen : D → List ℕ) (may_leave : D → List ℕ → Type 0) (moment : D → ℕ) (left_since : D → ℕ → List ℕ → Type 0) (faults : D → ℕ) (q p : ℕ) (old new : CoreState D K) : Type 0 where
  pub put : HasPut tells seen may_leave moment left_since faults kept.Ok old.queue new.queue (queue.Superseded q p)
  pub store : new.store ≡ old.store
  pub others : OthersStay old new
  pub pending : new.pending ≡ flat_map (at_receipt q (λ e. [])) old.pending
  pub events : new.events.list ≡ Supersede q p ∷ old.events.list
  pub room : length old.pending ≤ new.events.room
  pub last : new.last ≡ old.last

-- the record wasn't written, and everything is held as before
pub record WasRefused {D K : Type 0} (tells : Bool) (seen : D → List ℕ) (may_leave : D → List ℕ → Type 0) (moment : D → ℕ) (left_since : D → ℕ → List ℕ → Type 0) (faults : D → ℕ) (answer : Kept) (q p : ℕ) (old new : CoreState D K) : Type 0 where
  pub put : HasPut tells seen may_leave moment left_since faults answer old.queue new.queue (queue.Superseded q p)
  pub store : new.store ≡ old.store
  pub memory : MemoryStays old new

abbrev pub SupersedeDoes : {D K : Type 0} → Bool → (D → List ℕ) → (D → List ℕ → Type 0) → (D → ℕ) → (D → ℕ → List ℕ → Type 0) → (D → ℕ) → Option Claimed → ℕ → ℕ → CoreState D K → CoreState D K → Type 0
SupersedeDoes tells seen may_leave moment left_since faults None q p old new = HasSuperseded tells seen may_leave moment left_since faults q p old new
SupersedeDoes tells seen may_leave moment left_since faults (Some claimed.QueueFault) q p old new = (answer : Kept) × IsFaulty answer × WasRefused tells seen may_leave moment left_since faults answer q p old new
SupersedeDoes tells seen may_leave moment left_since faults (Some claimed.Spent) q p old new = IsPast (queue_size old.queue) (queue_text (queue.Superseded q p)) × CoreStays old new
SupersedeDoes tells seen may_leave moment left_since faults (Some claimed.Memory) q p old new = CoreStays old new
SupersedeDoes tells seen may_leave moment left_since faults (Some _) q p old new = ⊥

-- the same, with the ghosts of the trait as one value
abbrev pub DoesSupersede : {D K : Type 0} → disk.Ghosts D → Option Claimed → ℕ → ℕ → CoreState D K → CoreState D K → Type 0
DoesSupersede d = SupersedeDoes d.is_told d.seen d.may_leave d.moment d.left_since d.fault_count

-- an entry is claimed
pub record HasBegun {D K : Type 0} (r : ℕ) (old new : CoreState D K) : Type 0 where
  pub queue : new.queue ≡ old.queue
  pub store : new.store ≡ old.store
  pub others : OthersStay old new
  pub pending : new.pending ≡ flat_map (at_receipt r (λ e. marked true e ∷ [])) old.pending
  pub events : new.events.list ≡ Claim r ∷ old.events.list
  pub room : length old.pending ≤ new.events.room
  pub last : new.last ≡ old.last

abbrev pub BeginDoes : {D K : Type 0} → Claimed → Job → CoreState D K → CoreState D K → Type 0
BeginDoes (claimed.Job given) job old new = (given ≡ job) × HasBegun job.receipt old new
BeginDoes claimed.Memory job old new = CoreStays old new
BeginDoes _ job old new = ⊥

abbrev pub NothingGives : Claimed → List Entry → Type 0
NothingGives claimed.Done es = es ≡ []
NothingGives claimed.Rest es = es ≢ []
NothingGives _ es = ⊥

-- ---- a whole step

-- the first candidate is stale
pub record IsOlder {D K : Type 0} (q p : ℕ) (core : CoreState D K) : Type 0 where
  pub entry : Entry
  pub first : first_candidate core.pending core.pending ≡ Some entry
  pub receipt : q ≡ entry.receipt
  pub newer : newer_than core.tables entry.receipt entry.group ≡ Some p

-- the first candidate isn't stale, and is the job
pub record IsNext {D K : Type 0} (job : Job) (core : CoreState D K) : Type 0 where
  pub entry : Entry
  pub first : first_candidate core.pending core.pending ≡ Some entry
  pub receipt : job.receipt ≡ entry.receipt
  pub command_is : job.command ≡ entry.command
  pub not_older : newer_than core.tables entry.receipt entry.group ≡ None

abbrev pub TurnDoes : {D K : Type 0} → Bool → (D → List ℕ) → (D → List ℕ → Type 0) → (D → ℕ) → (D → ℕ → List ℕ → Type 0) → (D → ℕ) → Option Claimed → CoreState D K → CoreState D K → Type 0
TurnDoes tells seen may_leave moment left_since faults None old new = (q : ℕ) × (p : ℕ) × IsOlder q p old × HasSuperseded tells seen may_leave moment left_since faults q p old new
TurnDoes tells seen may_leave moment left_since faults (Some (claimed.Job job)) old new = IsNext job old × HasBegun job.receipt old new
TurnDoes tells seen may_leave moment left_since faults (Some claimed.Rest) old new = (first_candidate old.pending old.pending ≡ None) × (old.pending ≢ []) × (new ≡ old)
TurnDoes tells seen may_leave moment left_since faults (Some claimed.Done) old new = (old.pending ≡ []) × (new ≡ old)
TurnDoes tells seen may_leave moment left_since faults (Some claimed.QueueFault) old new =
    (q : ℕ) × (p : ℕ) × IsOlder q p old × ((answer : Kept) × IsFaulty answer × WasRefused tells seen may_leave moment left_since faults answer q p old new)
TurnDoes tells seen may_leave moment left_since faults (Some claimed.Spent) old new =
    (q : ℕ) × (p : ℕ) × IsOlder q p old × IsPast (queue_size old.queue) (queue_text (queue.Superseded q p)) × CoreStays old new
TurnDoes tells seen may_leave moment left_since faults (Some claimed.Down) old new = ⊥
TurnDoes tells seen may_leave moment left_since faults (Some claimed.Memory) old new = CoreStays old new

-- the same, with the ghosts of the trait as one value
abbrev pub DoesTurn : {D K : Type 0} → disk.Ghosts D → Option Claimed → CoreState D K → CoreState D K → Type 0
DoesTurn d = TurnDoes d.is_told d.seen d.may_leave d.moment d.left_since d.fault_count
