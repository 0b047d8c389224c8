-- What a compaction does, by the answers of the two logs.
use Rattle.std.specs.Prelude.{◌≡◌, ◌≢◌, ℕ, Bool, true, false, List, Option}
use Rattle.core_state.specs.fleet_keeper.declared.keeper.Keeper as keeper
use Rattle.core_state.specs.fleet_ports.declared.disk.Disk as disk
use Rattle.core_state.specs.log_spec.declared.side.Side.{Side}
use Rattle.core_state.specs.record_spec.declared.store.StoreRecord.{StoreRecord}
use Rattle.core_state.specs.fleet_keeper.declared.kept.Kept.{Kept}
use Rattle.core_state.specs.fleet_keeper.declared.kept.Kept.TheVariants as kept
use Rattle.core_state.specs.declared.state.CoreState.{CoreState}
use Rattle.core_state.specs.Changes.{MemoryStays, CoreStays}
use Rattle.core_state.specs.Seen.{down_of}
use Rattle.core_compact.specs.declared.answers.Compacted.{Compacted}
use Rattle.core_compact.specs.declared.answers.Compacted.TheVariants as came
use Rattle.core_compact.specs.Anew.{QueueAnew, StoreAnew, StoreGoesOn}
use Rattle.core_compact.specs.Compacts.{queue_records, store_records}

-- the answer if the store's log wasn't compacted
abbrev pub of_store : Kept → Compacted
of_store kept.Ok = came.Ok
of_store kept.Failed = came.StoreFault
of_store kept.Down = came.StoreFault
of_store kept.Memory = came.Memory
of_store kept.Spent = came.Spent

-- the answer by that of the queue's log, once the store's is compacted
abbrev pub of_queue : Kept → Compacted
of_queue kept.Ok = came.Ok
of_queue kept.Failed = came.QueueFault
of_queue kept.Down = came.QueueFault
of_queue kept.Memory = came.Memory
of_queue kept.Spent = came.Spent

pub data CompactDoes {D K : Type 0} (queue_tells : Bool) (seen : D → List ℕ) (may_leave : D → List ℕ → Type 0) (moment : D → ℕ) (left_since : D → ℕ → List ℕ → Type 0) (faults : D → ℕ)
    (store_tells : Bool) (kept_in : K → Option (List StoreRecord)) (images : K → Option (List StoreRecord) → Type 0) (keeper_moment : K → ℕ × ℕ) (images_since : K → ℕ × ℕ → Option (List StoreRecord) → Type 0)
    (keeper_up : K → Type 0) (keeper_down : K → Bool) (size generation : K → ℕ) (side : K → Option Side) (goes_on : K → K → Type 0) (store_faults : K → ℕ) (answer : Compacted) (old new : CoreState D K) : Type 0 where
  was_down : answer ≡ came.Down → down_of keeper_down old ≡ true → new ≡ old
      → CompactDoes queue_tells seen may_leave moment left_since faults store_tells kept_in images keeper_moment images_since keeper_up keeper_down size generation side goes_on store_faults answer old new
  no_memory : answer ≡ came.Memory → down_of keeper_down old ≡ false → CoreStays old new
      → CompactDoes queue_tells seen may_leave moment left_since faults store_tells kept_in images keeper_moment images_since keeper_up keeper_down size generation side goes_on store_faults answer old new
  -- the store's log wasn't compacted, and the queue's wasn't called
  at_store : (said : Kept) → (said ≢ kept.Ok) → answer ≡ of_store said → down_of keeper_down old ≡ false
      → StoreAnew store_tells kept_in images keeper_moment images_since keeper_up keeper_down size generation side goes_on store_faults said old.store new.store (store_records old)
      → new.queue ≡ old.queue → MemoryStays old new
      → CompactDoes queue_tells seen may_leave moment left_since faults store_tells kept_in images keeper_moment images_since keeper_up keeper_down size generation side goes_on store_faults answer old new
  -- the store's log was compacted, and the queue's was called
  at_queue : (said : Kept) → answer ≡ of_queue said → down_of keeper_down old ≡ false
      → StoreAnew store_tells kept_in images keeper_moment images_since keeper_up keeper_down size generation side goes_on store_faults kept.Ok old.store new.store (store_records old)
      → QueueAnew queue_tells seen may_leave moment left_since faults said old.queue new.queue (queue_records old) → MemoryStays old new
      → CompactDoes queue_tells seen may_leave moment left_since faults store_tells kept_in images keeper_moment images_since keeper_up keeper_down size generation side goes_on store_faults answer old new

-- the same, with the ghosts of each trait as one value
abbrev pub DoesCompact : {D K : Type 0} → disk.Ghosts D → keeper.Ghosts K → Compacted → CoreState D K → CoreState D K → Type 0
DoesCompact d k = CompactDoes d.is_told d.seen d.may_leave d.moment d.left_since d.fault_count
    k.is_told k.kept k.images k.moment k.images_since k.is_up k.down k.size k.generation k.side (StoreGoesOn k) k.fault_count
