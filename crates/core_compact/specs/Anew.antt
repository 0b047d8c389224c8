-- What compacting one log does, by its answer.
use Rattle.std.specs.Prelude.{◌≡◌, ◌⊎◌, ◌↔◌, ℕ, ◌+◌, Bool, true, List, map, Option, Some, IsTrue}
use Rattle.std.specs.List.{AllByRecursion}
use Rattle.core_state.specs.fleet_keeper.declared.keeper.Keeper as keeper
use Rattle.core_state.specs.fleet_ports.declared.disk.Disk as disk
use Rattle.core_state.specs.fleet_ports.Counts.{Counts, RoseBy}
use Rattle.core_state.specs.record_log.Lay.{laid_size}
use Rattle.core_state.specs.log_spec.declared.side.Side.{Side}
use Rattle.core_state.specs.log_pair.Pair.{flipped, generation_of_pair}
use Rattle.core_state.specs.record_spec.declared.queue.QueueRecord.{QueueRecord}
use Rattle.core_state.specs.record_spec.declared.store.StoreRecord.{StoreRecord}
use Rattle.core_state.specs.record_spec.Queue.{queue_text}
use Rattle.core_state.specs.record_spec.Store.{store_text}
use Rattle.core_state.specs.queue_records.Reading.{queue_at}
use Rattle.core_state.specs.fleet_keeper.declared.kept.Kept.{Kept}
use Rattle.core_state.specs.fleet_keeper.declared.kept.Kept.TheVariants as kept
use Rattle.core_state.specs.fleet_keeper.Kept.{IsRefusal, IsFaulty}
use Rattle.core_state.specs.fleet_keeper.Limits.{ArePast}
use Rattle.core_state.specs.fleet_keeper.Records.{AllAre, IsOneOf}
use Rattle.core_state.specs.fleet_keeper.Sides.{turned_side}
use Rattle.core_state.specs.queue_log.declared.queue.QueueLog.{QueueLog}
use Rattle.core_state.specs.queue_log.Queued.{queue_pair, queued, QueueImages, QueueIsUp, QueueSince, queue_down, queue_moment, queue_size, queue_side}
use Rattle.core_state.specs.Moments.{IsLater}
use Rattle.core_state.specs.Puts.{QueueCounts, QueueRoseTwice}

-- each record is read off its spelling
abbrev pub AreRead : List QueueRecord → Type 0
AreRead = AllByRecursion (λ (rec : QueueRecord). queue_at (queue_text rec) ≡ Some rec)

-- the frames are the spellings of these records, which are read off them
abbrev pub AreFramesOf : List (List ℕ) → List QueueRecord → Type 0
AreFramesOf frames records = (frames ≡ map queue_text records) × AreRead records

-- At every moment within, and after it, an image of the queue's log has the old records or these. The answer says which.
pub record QueueAnew {D : Type 0} (tells : Bool) (seen : D → List ℕ) (may_leave : D → List ℕ → Type 0) (moment : D → ℕ) (left_since : D → ℕ → List ℕ → Type 0) (fault_count : D → ℕ)
    (answer : Kept) (old new : QueueLog D) (records : List QueueRecord) : Type 0 where
  pub any_moment : (o : Option (List QueueRecord)) → QueueSince left_since new (queue_moment moment old) o → IsOneOf (queued seen old) (Some records) o
  pub later : IsLater (queue_moment moment old) (queue_moment moment new)
  pub each : (o : Option (List QueueRecord)) → QueueImages may_leave new o → IsOneOf (queued seen old) (Some records) o
  pub all_new : answer ≡ kept.Ok → AllAre (QueueImages may_leave new) (Some records)
  pub queued_all : answer ≡ kept.Ok → IsTrue tells → queued seen new ≡ Some records
  pub queued_old : IsRefusal answer → IsTrue tells → queued seen new ≡ queued seen old
  pub untouched : answer ≡ kept.Spent → new ≡ old
  pub down : (queue_down new ≡ true) ↔ (answer ≡ kept.Down)
  pub again : (answer ≡ kept.Down → ⊥) → QueueIsUp seen may_leave new
  pub side : answer ≡ kept.Ok → queue_side new ≡ flipped (queue_side old)
  pub same_side : (answer ≡ kept.Ok → ⊥) → queue_side new ≡ queue_side old
  pub size : answer ≡ kept.Ok → queue_size new ≡ laid_size (map queue_text records)
  pub same_size : (answer ≡ kept.Ok → ⊥) → queue_size new ≡ queue_size old
  pub generation : answer ≡ kept.Ok → generation_of_pair (queue_pair new) ≡ generation_of_pair (queue_pair old) + 1
  pub same_generation : (answer ≡ kept.Ok → ⊥) → generation_of_pair (queue_pair new) ≡ generation_of_pair (queue_pair old)
  -- it takes no memory
  pub memory : answer ≡ kept.Memory → ⊥
  pub spent : (answer ≡ kept.Spent) ↔ ArePast (generation_of_pair (queue_pair old)) (map queue_text records)
  pub cause : QueueCounts fault_count old new (IsFaulty answer)
  pub twice : answer ≡ kept.Down → QueueRoseTwice fault_count old new

-- the same, with the ghosts of the trait as one value
abbrev pub QueueBeginsAnew : {D : Type 0} → disk.Ghosts D → Kept → QueueLog D → QueueLog D → List QueueRecord → Type 0
QueueBeginsAnew d = QueueAnew d.is_told d.seen d.may_leave d.moment d.left_since d.fault_count

-- the same for the store's log
pub record StoreAnew {K : Type 0} (tells : Bool) (kept_in : K → Option (List StoreRecord)) (images : K → Option (List StoreRecord) → Type 0) (keeper_moment : K → ℕ × ℕ) (images_since : K → ℕ × ℕ → Option (List StoreRecord) → Type 0)
    (keeper_up : K → Type 0) (keeper_down : K → Bool) (size generation : K → ℕ) (side : K → Option Side) (goes_on : K → K → Type 0) (fault_count : K → ℕ) (answer : Kept) (old new : K) (records : List StoreRecord) : Type 0 where
  pub any_moment : (o : Option (List StoreRecord)) → images_since new (keeper_moment old) o → IsOneOf (kept_in old) (Some records) o
  pub later : IsLater (keeper_moment old) (keeper_moment new)
  pub each : (o : Option (List StoreRecord)) → images new o → IsOneOf (kept_in old) (Some records) o
  pub all_new : answer ≡ kept.Ok → AllAre (images new) (Some records)
  pub kept_all : answer ≡ kept.Ok → IsTrue tells → kept_in new ≡ Some records
  pub kept_old : IsRefusal answer → IsTrue tells → kept_in new ≡ kept_in old
  pub untouched : (answer ≡ kept.Memory) ⊎ (answer ≡ kept.Spent) → new ≡ old
  pub down : (keeper_down new ≡ true) ↔ (answer ≡ kept.Down)
  pub again : (answer ≡ kept.Down → ⊥) → keeper_up new
  pub size_is : answer ≡ kept.Ok → size new ≡ laid_size (map store_text records)
  pub same_size : (answer ≡ kept.Ok → ⊥) → size new ≡ size old
  pub generation_is : answer ≡ kept.Ok → generation new ≡ generation old + 1
  pub same_generation : (answer ≡ kept.Ok → ⊥) → generation new ≡ generation old
  pub side_is : answer ≡ kept.Ok → side new ≡ turned_side (side old)
  pub same_side : (answer ≡ kept.Ok → ⊥) → side new ≡ side old
  pub spent : answer ≡ kept.Spent → ArePast (generation old) (map store_text records)
  pub unspent : ArePast (generation old) (map store_text records) → (answer ≡ kept.Spent) ⊎ (answer ≡ kept.Memory)
  pub keeper : goes_on old new
  pub cause : Counts (fault_count old) (fault_count new) (IsFaulty answer)
  pub twice : answer ≡ kept.Down → RoseBy 2 (fault_count old) (fault_count new)

-- The fault counts at the keeper's opening stay, and so does each bound on its count by those of its disks.
pub record KeeperGoesOn {K : Type 0} (opened : K → ℕ × ℕ) (is_within : K → ℕ × ℕ × ℕ → Type 0) (old new : K) : Type 0 where
  pub same_opening : opened new ≡ opened old
  pub bounds : (since : ℕ × ℕ × ℕ) → is_within old since → is_within new since

-- the same, with the ghosts of the trait as one value
abbrev pub StoreGoesOn : {K : Type 0} → keeper.Ghosts K → K → K → Type 0
StoreGoesOn k = KeeperGoesOn k.opened k.is_within

-- `StoreAnew` with the ghosts of the trait as one value
abbrev pub StoreBeginsAnew : {K : Type 0} → keeper.Ghosts K → Kept → K → K → List StoreRecord → Type 0
StoreBeginsAnew k = StoreAnew k.is_told k.kept k.images k.moment k.images_since k.is_up k.down k.size k.generation k.side (StoreGoesOn k) k.fault_count
