-- The contracts of appending a record to the queue, and of keeping one in the store.
use Rattle.std.specs.Prelude.{◌+◌, length, ◌≡◌, ◌⊎◌, ◌↔◌, ℕ, Bool, true, List, Option, IsTrue}
use Rattle.queue_log.specs.fleet_keeper.declared.keeper.Keeper as keeper
use Rattle.queue_log.specs.fleet_ports.declared.disk.Disk as disk
use Rattle.queue_log.specs.fleet_ports.Counts.{Counts, RoseBy}
use Rattle.queue_log.specs.log_pair.Open.{PairCounts}
use Rattle.queue_log.specs.log_pair.Pair.{disk_a, disk_b}
use Rattle.supersede_core.specs.record_spec.declared.queue.QueueRecord.{QueueRecord}
use Rattle.supersede_core.specs.record_spec.declared.store.StoreRecord.{StoreRecord}
use Rattle.supersede_core.specs.record_spec.Queue.{queue_text}
use Rattle.supersede_core.specs.record_spec.Store.{store_text}
use Rattle.queue_log.specs.fleet_keeper.declared.kept.Kept.{Kept}
use Rattle.queue_log.specs.fleet_keeper.declared.kept.Kept.TheVariants as kept
use Rattle.queue_log.specs.fleet_keeper.Kept.{IsRefusal, IsFaulty}
use Rattle.queue_log.specs.fleet_keeper.Limits.{IsPast}
use Rattle.queue_log.specs.fleet_keeper.Records.{IsOneOf, with_one}
use Rattle.queue_log.specs.Queued.{queue_pair, queued, QueueImages, QueueIsUp, QueueLeaves, queue_down, queue_size, RoseTwice}
use Rattle.queue_log.specs.declared.queue.QueueLog.{QueueLog}
use Rattle.core_state.specs.Moments.{IsLater}

-- the fault counts of the queue's two disks
abbrev pub QueueCounts : {D : Type 0} → (D → ℕ) → QueueLog D → QueueLog D → Type 0 → Type 0
QueueCounts fault_count old new Fault =
    PairCounts (fault_count (disk_a (queue_pair old))) (fault_count (disk_a (queue_pair new))) (fault_count (disk_b (queue_pair old))) (fault_count (disk_b (queue_pair new))) Fault

-- one of these counts rose by two
abbrev pub QueueRoseTwice : {D : Type 0} → (D → ℕ) → QueueLog D → QueueLog D → Type 0
QueueRoseTwice fault_count old new =
    RoseTwice (fault_count (disk_a (queue_pair old))) (fault_count (disk_a (queue_pair new))) (fault_count (disk_b (queue_pair old))) (fault_count (disk_b (queue_pair new)))

-- At every moment within the put, and after it, an image has the old records, or those and the new one. The answer says which.
pub record HasPut {D : Type 0} (tells : Bool) (seen : D → List ℕ) (may_leave : D → List ℕ → Type 0) (moment : D → ℕ) (left_since : D → ℕ → List ℕ → Type 0) (fault_count : D → ℕ)
    (answer : Kept) (old new : QueueLog D) (rec : QueueRecord) : Type 0 where
  pub any_moment : QueueLeaves may_leave moment left_since old new (IsOneOf (queued seen old) (with_one (queued seen old) rec))
  pub each : (o : Option (List QueueRecord)) → QueueImages may_leave new o → IsOneOf (queued seen old) (with_one (queued seen old) rec) o
  pub queued_one : answer ≡ kept.Ok → IsTrue tells → queued seen new ≡ with_one (queued seen old) rec
  pub queued_old : IsRefusal answer → IsTrue tells → queued seen new ≡ queued seen old
  pub untouched : (answer ≡ kept.Memory) ⊎ (answer ≡ kept.Spent) → new ≡ old
  pub down : (queue_down new ≡ true) ↔ (answer ≡ kept.Down)
  pub again : (answer ≡ kept.Down → ⊥) → QueueIsUp seen may_leave new
  pub spent : (answer ≡ kept.Spent) ↔ IsPast (queue_size old) (queue_text rec)
  pub grew : answer ≡ kept.Ok → queue_size new ≡ queue_size old + 5 + length (queue_text rec)
  pub same_size : (answer ≡ kept.Ok → ⊥) → queue_size new ≡ queue_size old
  pub cause : QueueCounts fault_count old new (IsFaulty answer)
  pub twice : answer ≡ kept.Down → QueueRoseTwice fault_count old new

-- the same, with the ghosts of the trait as one value
abbrev pub QueueHasPut : {D : Type 0} → disk.Ghosts D → Kept → QueueLog D → QueueLog D → QueueRecord → Type 0
QueueHasPut d = HasPut d.is_told d.seen d.may_leave d.moment d.left_since d.fault_count

-- The keeper's generation and the fault counts at its opening stay, and so does each bound on its count by those of its disks.
pub record KeeperStays {K : Type 0} (generation : K → ℕ) (opened : K → ℕ × ℕ) (is_within : K → ℕ × ℕ × ℕ → Type 0) (old new : K) : Type 0 where
  pub same_generation : generation new ≡ generation old
  pub same_opening : opened new ≡ opened old
  pub bounds : (since : ℕ × ℕ × ℕ) → is_within old since → is_within new since

-- the same, with the ghosts of the trait as one value
abbrev pub StoreStays : {K : Type 0} → keeper.Ghosts K → K → K → Type 0
StoreStays k = KeeperStays k.generation k.opened k.is_within

-- the same for keeping a record in the store
pub record HasKept {K : Type 0} (tells : Bool) (kept_in : K → Option (List StoreRecord)) (images : K → Option (List StoreRecord) → Type 0) (keeper_moment : K → ℕ × ℕ) (images_since : K → ℕ × ℕ → Option (List StoreRecord) → Type 0)
    (keeper_up : K → Type 0) (keeper_down : K → Bool) (size : K → ℕ) (stays : K → K → Type 0) (fault_count : K → ℕ) (answer : Kept) (old new : K) (rec : StoreRecord) : Type 0 where
  pub any_moment : (o : Option (List StoreRecord)) → images_since new (keeper_moment old) o → IsOneOf (kept_in old) (with_one (kept_in old) rec) o
  pub later : IsLater (keeper_moment old) (keeper_moment new)
  pub each : (o : Option (List StoreRecord)) → images new o → IsOneOf (kept_in old) (with_one (kept_in old) rec) o
  pub kept_one : answer ≡ kept.Ok → IsTrue tells → kept_in new ≡ with_one (kept_in old) rec
  pub kept_old : IsRefusal answer → IsTrue tells → kept_in new ≡ kept_in old
  pub untouched : (answer ≡ kept.Memory) ⊎ (answer ≡ kept.Spent) → new ≡ old
  pub down : (keeper_down new ≡ true) ↔ (answer ≡ kept.Down)
  pub again : (answer ≡ kept.Down → ⊥) → keeper_up new
  pub spent : answer ≡ kept.Spent → IsPast (size old) (store_text rec)
  pub unspent : IsPast (size old) (store_text rec) → (answer ≡ kept.Spent) ⊎ (answer ≡ kept.Memory)
  pub grew : answer ≡ kept.Ok → size new ≡ size old + 5 + length (store_text rec)
  pub same_size : (answer ≡ kept.Ok → ⊥) → size new ≡ size old
  pub keeper : stays old new
  pub cause : Counts (fault_count old) (fault_count new) (IsFaulty answer)
  pub twice : answer ≡ kept.Down → RoseBy 2 (fault_count old) (fault_count new)

-- the same, with the ghosts of the trait as one value
abbrev pub StoreHasKept : {K : Type 0} → keeper.Ghosts K → Kept → K → K → StoreRecord → Type 0
StoreHasKept k = HasKept k.is_told k.kept k.images k.moment k.images_since k.is_up k.down k.size (StoreStays k) k.fault_count
