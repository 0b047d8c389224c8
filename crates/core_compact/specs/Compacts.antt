-- What a compaction leaves.
use Rattle.std.specs.Prelude.{◌≡◌, ◌⊎◌, ℕ, ◌+◌, Bool, false, List, [], ◌∷◌, ◌++◌, map, Option, Some, None, IsTrue}
use Rattle.core_state.specs.fleet_keeper.declared.keeper.Keeper as keeper
use Rattle.core_state.specs.fleet_ports.declared.disk.Disk as disk
use Rattle.core_state.specs.record_log.Lay.{laid_size}
use Rattle.core_state.specs.log_spec.declared.side.Side.{Side}
use Rattle.core_state.specs.log_pair.Pair.{flipped, generation_of_pair}
use Rattle.core_state.specs.record_spec.declared.queue.QueueRecord.{QueueRecord}
use Rattle.core_state.specs.record_spec.declared.queue.QueueRecord.TheVariants as queue
use Rattle.core_state.specs.record_spec.declared.store.StoreRecord.{StoreRecord}
use Rattle.core_state.specs.record_spec.Queue.{queue_text}
use Rattle.core_state.specs.record_spec.Store.{store_text}
use Rattle.core_state.specs.core_spec.declared.dead.Dead.{Dead}
use Rattle.core_state.specs.core_spec.declared.entry.Entry.{Entry}
use Rattle.core_state.specs.core_spec.Checkpoints.{held, dead, queue_checkpoint, store_checkpoint}
use Rattle.core_state.specs.core_spec.History.{History, trace_of}
use Rattle.core_state.specs.compact_laws.checkpoint_spec.Lists.{list_of}
use Rattle.core_state.specs.compact_laws.Records.{records_of}
use Rattle.core_state.specs.fleet_keeper.Limits.{ArePast}
use Rattle.core_state.specs.fleet_keeper.Sides.{turned_side}
use Rattle.core_state.specs.queue_log.declared.queue.QueueLog.{QueueLog}
use Rattle.core_state.specs.queue_log.Queued.{queue_pair, queued, queue_down, queue_size, queue_side}
use Rattle.core_state.specs.declared.state.CoreState.{CoreState}
use Rattle.core_compact.specs.declared.answers.Compacted.{Compacted}
use Rattle.core_compact.specs.declared.answers.Compacted.TheVariants as came

-- ---- the records that start a compacted log

-- the last receipt, the pending commands, and the discarded ones
abbrev pub queue_records_of : ℕ → List Entry → List Dead → List QueueRecord
queue_records_of last pending given_up = queue.Base last ∷ (map held pending ++ map dead given_up)

abbrev pub queue_records : {D K : Type 0} → CoreState D K → List QueueRecord
queue_records core = queue_records_of core.last core.pending core.discards.list

-- the lifetimes, the greatest sweeps, no receipt, and each node's marks and commands
abbrev pub store_records : {D K : Type 0} → CoreState D K → List StoreRecord
store_records core = records_of None (list_of core.tables)

-- they are the checkpoints of the history
pub record AreCheckpoints {D K : Type 0} (core : CoreState D K) (history : History) : Type 0 where
  pub queue : queue_records core ≡ queue_checkpoint history
  pub store : store_records core ≡ store_checkpoint core.tables.ttls None (trace_of history)

-- ---- what is written

-- the store's log has exactly these records, in the other file
pub record StoreIsNew {K : Type 0} (tells : Bool) (kept_in : K → Option (List StoreRecord)) (size generation : K → ℕ) (side : K → Option Side) (old new : K) (records : List StoreRecord) : Type 0 where
  pub has : IsTrue tells → kept_in new ≡ Some records
  pub size_is : size new ≡ laid_size (map store_text records)
  pub generation_is : generation new ≡ generation old + 1
  pub side_is : side new ≡ turned_side (side old)

-- the store's log has its old records, unless it is down, in the same file
pub record StoreIsOld {K : Type 0} (tells : Bool) (kept_in : K → Option (List StoreRecord)) (keeper_down : K → Bool) (size generation : K → ℕ) (side : K → Option Side) (old new : K) : Type 0 where
  pub has : keeper_down new ≡ false → IsTrue tells → kept_in new ≡ kept_in old
  pub size_is : size new ≡ size old
  pub generation_is : generation new ≡ generation old
  pub side_is : side new ≡ side old

-- the queue's log has exactly these records, in the other file
pub record QueueIsNew {D : Type 0} (tells : Bool) (seen : D → List ℕ) (old new : QueueLog D) (records : List QueueRecord) : Type 0 where
  pub has : IsTrue tells → queued seen new ≡ Some records
  pub size_is : queue_size new ≡ laid_size (map queue_text records)
  pub generation_is : generation_of_pair (queue_pair new) ≡ generation_of_pair (queue_pair old) + 1
  pub side_is : queue_side new ≡ flipped (queue_side old)

pub record QueueIsOld {D : Type 0} (tells : Bool) (seen : D → List ℕ) (old new : QueueLog D) : Type 0 where
  pub has : queue_down new ≡ false → IsTrue tells → queued seen new ≡ queued seen old
  pub size_is : queue_size new ≡ queue_size old
  pub generation_is : generation_of_pair (queue_pair new) ≡ generation_of_pair (queue_pair old)
  pub side_is : queue_side new ≡ queue_side old

-- The store's log couldn't be compacted, and is unchanged; or the queue's couldn't, and the store's was compacted before.
abbrev pub SpentStore : {D K : Type 0} → Bool → (K → Option (List StoreRecord)) → (K → ℕ) → (K → ℕ) → (K → Option Side) → CoreState D K → CoreState D K → Type 0
SpentStore store_tells kept_in size generation side old new =
    (ArePast (generation old.store) (map store_text (store_records old)) × (new.store ≡ old.store))
    ⊎ (ArePast (generation_of_pair (queue_pair old.queue)) (map queue_text (queue_records old)) × StoreIsNew store_tells kept_in size generation side old.store new.store (store_records old))

-- The answer says which logs were compacted: both, the store's alone, or none.
abbrev pub CompactWrites : {D K : Type 0} → Bool → Bool → (D → List ℕ) → (K → Option (List StoreRecord)) → (K → Bool) → (K → ℕ) → (K → ℕ) → (K → Option Side) → Compacted → CoreState D K → CoreState D K → Type 0
CompactWrites queue_tells store_tells seen kept_in keeper_down size generation side came.Ok old new =
    StoreIsNew store_tells kept_in size generation side old.store new.store (store_records old) × QueueIsNew queue_tells seen old.queue new.queue (queue_records old)
CompactWrites queue_tells store_tells seen kept_in keeper_down size generation side came.QueueFault old new =
    StoreIsNew store_tells kept_in size generation side old.store new.store (store_records old) × QueueIsOld queue_tells seen old.queue new.queue
CompactWrites queue_tells store_tells seen kept_in keeper_down size generation side came.StoreFault old new =
    StoreIsOld store_tells kept_in keeper_down size generation side old.store new.store × (new.queue ≡ old.queue)
CompactWrites queue_tells store_tells seen kept_in keeper_down size generation side came.Spent old new =
    SpentStore store_tells kept_in size generation side old new × (new.queue ≡ old.queue)
CompactWrites queue_tells store_tells seen kept_in keeper_down size generation side came.Down old new = (new.store ≡ old.store) × (new.queue ≡ old.queue)
CompactWrites queue_tells store_tells seen kept_in keeper_down size generation side came.Memory old new = (new.store ≡ old.store) × (new.queue ≡ old.queue)

-- the same, with the ghosts of each trait as one value
abbrev pub LogsAreCompacted : {D K : Type 0} → disk.Ghosts D → keeper.Ghosts K → Compacted → CoreState D K → CoreState D K → Type 0
LogsAreCompacted d k = CompactWrites d.is_told k.is_told d.seen k.kept k.down k.size k.generation k.side
