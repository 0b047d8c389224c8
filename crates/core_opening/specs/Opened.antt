-- What the answers of an opening say about the four files, and about the core.
use Rattle.std.specs.Prelude.{◌≡◌, ◌⊎◌, ℕ, ◌+◌, ◌<◌, ◌≤◌, max, Bool, true, false, List, [], ◌∷◌, ◌++◌, map, Option, Some, None, Result, Ok, Err, IsTrue}
use Rattle.std.specs.List.{AllByRecursion, Contains}
use Rattle.core_state.specs.fleet_ports.declared.disk.Disk as disk
use Rattle.core_state.specs.fleet_rows.declared.settings.Ttls.{Ttls}
use Rattle.core_state.specs.fleet_ports.Moments.{Untouched}
use Rattle.core_state.specs.fleet_ports.declared.disk.Disks.{Disks}
use Rattle.core_state.specs.log_spec.ImageOf.{image_of}
use Rattle.core_state.specs.log_spec.PairImage.{PairImage, broken, counts, pair_image}
use Rattle.core_state.specs.log_pair.Open.{PairCounts}
use Rattle.core_state.specs.log_spec.declared.side.Side.{Side}
use Rattle.core_state.specs.log_spec.declared.side.Side.TheVariants.{A, B}
use Rattle.core_state.specs.log_pair.Pair.{disk_a, disk_b, side_of, generation_of_pair, is_down_of, IsGood}
use Rattle.core_state.specs.record_spec.declared.queue.QueueRecord.{QueueRecord}
use Rattle.core_state.specs.record_spec.declared.queue.QueueRecord.TheVariants.{Done}
use Rattle.core_state.specs.record_spec.declared.store.StoreRecord.{StoreRecord}
use Rattle.core_state.specs.record_spec.Queue.{IsQueueRecord}
use Rattle.core_state.specs.queue_records.Reading.{queue_at}
use Rattle.core_state.specs.store_records.Reading.{store_at}
use Rattle.core_state.specs.table_machine.Steps.{empty_table}
use Rattle.core_state.specs.core_spec.declared.dead.Dead.{Dead}
use Rattle.core_state.specs.core_spec.declared.entry.Entry.{Entry}
use Rattle.core_state.specs.core_spec.declared.event.Event.TheVariants.{Restart}
use Rattle.core_state.specs.core_spec.Checkpoints.{settings}
use Rattle.core_state.specs.core_spec.Damage.{IsQueueLog, IsStoreLog}
use Rattle.core_state.specs.core_spec.History.{History}
use Rattle.core_state.specs.core_spec.Stands.{last_taken, Stands}
use Rattle.core_state.specs.core_laws.Replay.{pending_after, dead_after, last_after}
use Rattle.core_state.specs.core_laws.TableReplay.{table_after}
use Rattle.core_state.specs.supersede_core.Waiting.{AreBelow, stands}
use Rattle.core_state.specs.fleet_keeper.declared.log_keeper.LogKeeper.{LogKeeper}
use Rattle.core_state.specs.fleet_keeper.declared.kept.Kept.{Kept}
use Rattle.core_state.specs.fleet_keeper.declared.kept.Kept.TheVariants as kept
use Rattle.core_state.specs.fleet_keeper.Keeper.{pair_of, faults_of, opened_of, IsWithin}
use Rattle.core_state.specs.fleet_keeper.Opened.{IsDamageOf, gate_at}
use Rattle.core_state.specs.fleet_keeper.Pairs.{pair_records, records_at, PairImages}
use Rattle.core_state.specs.fleet_keeper.Records.{AllAre, records_in}
use Rattle.core_state.specs.queue_log.declared.queue.QueueLog.{QueueLog}
use Rattle.core_state.specs.queue_log.Queued.{queue_pair, queued, queue_side, queue_size, QueueImages, QueueIsUp}
use Rattle.core_state.specs.declared.state.CoreState.{CoreState}
use Rattle.core_state.specs.Seen.{down_of, IsFit, IsSound}
use Rattle.core_state.specs.StandsFor.{StandsAt, StandsFor}
use Rattle.core_state.specs.compact_laws.Lawful.{IsLawfulTable}
use Rattle.core_opening.specs.declared.faults.FileName.{FileName}
use Rattle.core_opening.specs.declared.faults.FileName.TheVariants.{QueueA, QueueB, StoreA, StoreB}
use Rattle.core_opening.specs.declared.faults.OpenCoreFault.{OpenCoreFault}
use Rattle.core_opening.specs.declared.faults.OpenCoreFault.TheVariants.{QueueFault, StoreFault, Damaged, Memory, Spent}
use Rattle.core_opening.specs.declared.parts.OpenStore.{OpenStore}
use Rattle.core_opening.specs.declared.reading.Reading.{Reading}
use Rattle.core_opening.specs.Replayed.{IsQueueDamaged}
use Rattle.core_state.specs.log_spec.Limits.{most_log}

-- a core over two pairs of log files
abbrev pub LogCore : Type 0 → Type 0
LogCore D = CoreState D (LogKeeper D)

abbrev pub found_queue : {D : Type 0} → LogCore D → List QueueRecord
found_queue core = core.found.queue.value

abbrev pub found_store : {D : Type 0} → LogCore D → List StoreRecord
found_store core = core.found.store.value

-- ---- damage

abbrev pub queue_name : Side → FileName
queue_name A = QueueA
queue_name B = QueueB

abbrev pub store_name : Side → FileName
store_name A = StoreA
store_name B = StoreB

-- The queue's two files are damaged at an offset of this file, by their bytes or at a frame that can't continue a log.
abbrev pub IsQueueDamageOf : PairImage → Side → ℕ → Type 0
IsQueueDamageOf (broken side place) file at = (file ≡ side) × (at ≡ place)
IsQueueDamageOf (counts side generation frames gate) file at = (file ≡ side) × ((index : ℕ) × IsQueueDamaged frames index × (at ≡ gate_at frames index))

abbrev pub IsQueueSound : PairImage → Type 0
IsQueueSound image = (records : List QueueRecord) × (records_in queue_at image ≡ Some records) × IsQueueLog records

abbrev pub IsQueueDamageAt : PairImage → FileName → ℕ → Type 0
IsQueueDamageAt image QueueA at = IsQueueDamageOf image A at
IsQueueDamageAt image QueueB at = IsQueueDamageOf image B at
IsQueueDamageAt image StoreA at = ⊥
IsQueueDamageAt image StoreB at = ⊥

abbrev pub IsStoreDamageAt : PairImage → FileName → ℕ → Type 0
IsStoreDamageAt image QueueA at = ⊥
IsStoreDamageAt image QueueB at = ⊥
IsStoreDamageAt image StoreA at = IsDamageOf image A at
IsStoreDamageAt image StoreB at = IsDamageOf image B at

-- damage of the queue, or damage of the store while the queue is sound
abbrev pub IsCoreDamage : PairImage → PairImage → FileName → ℕ → Type 0
IsCoreDamage queue store file at = IsQueueDamageAt queue file at ⊎ (IsQueueSound queue × IsStoreDamageAt store file at)

-- ---- what the logs have

-- the queue misses the Done of this receipt
abbrev pub LacksDone : List QueueRecord → List StoreRecord → ℕ → Type 0
LacksDone queued kept r = (last_taken kept ≡ Some r) × Contains (map (λ (e : Entry). e.receipt) (pending_after queued [])) r

-- the file that counts has this number of bytes up to and including its first closed gate
abbrev pub HasSize : PairImage → ℕ → Type 0
HasSize (broken side place) size = ⊥
HasSize (counts side generation frames gate) size = size ≡ gate + 1

-- a Done takes 9 bytes, and a file has at most 2^62
abbrev pub HasNoRoom : ℕ → Type 0
HasNoRoom size = most_log < size + 5 + 9

-- the records of both pairs of files are those of a log
pub record IsFound (queue store : PairImage) (queue_records : List QueueRecord) (store_records : List StoreRecord) : Type 0 where
  pub queue_is : records_in queue_at queue ≡ Some queue_records
  pub store_is : records_in store_at store ≡ Some store_records
  pub queue_log : IsQueueLog queue_records
  pub store_log : IsStoreLog store_records

-- both logs are sound, a Done is missing, and there is no room for it
pub record LacksRoom (queue store : PairImage) : Type 0 where
  pub queue_records : List QueueRecord
  pub store_records : List StoreRecord
  pub found : IsFound queue store queue_records store_records
  pub receipt : ℕ
  pub lacks : LacksDone queue_records store_records receipt
  pub size : ℕ
  pub size_is : HasSize queue size
  pub full : HasNoRoom size

-- if a Done is missing, there is room for it
abbrev pub HadRoom : PairImage → List QueueRecord → List StoreRecord → Type 0
HadRoom queue queue_records store_records = (r size : ℕ) → LacksDone queue_records store_records r → HasSize queue size → HasNoRoom size → ⊥

-- this file counts, and has this generation
abbrev pub CountsIn : PairImage → Side → ℕ → Type 0
CountsIn (broken side place) file number = ⊥
CountsIn (counts side generation frames gate) file number = (file ≡ side) × (number ≡ generation)

-- each log continues in the file that counted
pub record GoesOn {D : Type 0} (queue_image store_image : PairImage) (core : LogCore D) : Type 0 where
  pub queue : CountsIn queue_image (queue_side core.queue) (generation_of_pair (queue_pair core.queue))
  pub store : CountsIn store_image (side_of (pair_of core.store)) (generation_of_pair (pair_of core.store))

abbrev pub MatchOpening : {D : Type 0} → Result (LogCore D) (OpenCoreFault × Disks D) → PairImage → PairImage → Type 0
MatchOpening (Ok core) queue store = IsFound queue store (found_queue core) (found_store core) × HadRoom queue (found_queue core) (found_store core) × GoesOn queue store core
MatchOpening (Err (Damaged file at, disks)) queue store = IsCoreDamage queue store file at
MatchOpening (Err (Spent, disks)) queue store = LacksRoom queue store
MatchOpening (Err (QueueFault, disks)) queue store = Unit {0}
MatchOpening (Err (StoreFault, disks)) queue store = Unit {0}
MatchOpening (Err (Memory, disks)) queue store = Unit {0}

-- ---- the core

abbrev pub LogCoreStands : {D : Type 0} → Bool → (D → List ℕ) → (D → List ℕ → Type 0) → LogCore D → History → Type 0
LogCoreStands told seen may_leave core start =
    StandsFor told told seen may_leave (λ k. pair_records store_at seen (pair_of k)) (λ k. PairImages store_at may_leave (pair_of k)) (λ k. is_down_of (pair_of k)) faults_of core start

-- the core is up, each discarded command can be printed, and all that is held has a spelling
pub record IsUpCore {D : Type 0} (seen : D → List ℕ) (may_leave : D → List ℕ → Type 0) (core : LogCore D) : Type 0 where
  pub sound : IsSound seen may_leave (λ k. is_down_of (pair_of k)) (λ k. IsGood seen may_leave (pair_of k)) core
  pub up : down_of (λ k. is_down_of (pair_of k)) core ≡ false
  pub dead : AllByRecursion (λ (d : Dead). IsFit d.command) core.discards.list
  pub tables : IsLawfulTable core.tables

-- ---- the disks

abbrev pub disks_in : {D : Type 0} → LogCore D → Disks D
disks_in core = record {
  queue_a = disk_a (queue_pair core.queue);
  queue_b = disk_b (queue_pair core.queue);
  store_a = disk_a (pair_of core.store);
  store_b = disk_b (pair_of core.store);
}

abbrev pub disks_after : {D : Type 0} → Result (LogCore D) (OpenCoreFault × Disks D) → Disks D
disks_after (Ok core) = disks_in core
disks_after (Err e) = e.1

abbrev pub IsQueueFault : {D : Type 0} → Result (LogCore D) (OpenCoreFault × Disks D) → Type 0
IsQueueFault (Err (QueueFault, disks)) = Unit {0}
IsQueueFault _ = ⊥

abbrev pub IsStoreFault : {D : Type 0} → Result (LogCore D) (OpenCoreFault × Disks D) → Type 0
IsStoreFault (Err (StoreFault, disks)) = Unit {0}
IsStoreFault _ = ⊥

-- the contents of the queue's two files, and of the store's
abbrev pub seen_queue : {D : Type 0} → disk.Ghosts D → Disks D → PairImage
seen_queue d disks = pair_image (image_of (d.seen disks.queue_a)) (image_of (d.seen disks.queue_b))

abbrev pub seen_store : {D : Type 0} → disk.Ghosts D → Disks D → PairImage
seen_store d disks = pair_image (image_of (d.seen disks.store_a)) (image_of (d.seen disks.store_b))

-- the fault counts of the queue's two disks, and of the store's
abbrev pub QueueFaults : {D : Type 0} → disk.Ghosts D → Disks D → Disks D → Type 0 → Type 0
QueueFaults d old new Fault = PairCounts (d.fault_count old.queue_a) (d.fault_count new.queue_a) (d.fault_count old.queue_b) (d.fault_count new.queue_b) Fault

abbrev pub StoreFaults : {D : Type 0} → disk.Ghosts D → Disks D → Disks D → Type 0 → Type 0
StoreFaults d old new Fault = PairCounts (d.fault_count old.store_a) (d.fault_count new.store_a) (d.fault_count old.store_b) (d.fault_count new.store_b) Fault

-- the bytes of the four files stand for the history
abbrev pub FilesStand : Ttls → List ℕ → List ℕ → List ℕ → List ℕ → History → Type 0
FilesStand ttls queue_a queue_b store_a store_b history = StandsAt ttls (records_at queue_at queue_a queue_b) (records_at store_at store_a store_b) history

-- each image of the four disks stands for the history
abbrev pub DisksStand : {D : Type 0} → (D → List ℕ → Type 0) → Ttls → Disks D → History → Type 0
DisksStand may_leave ttls disks history =
    (qa qb sa sb : List ℕ) → may_leave disks.queue_a qa → may_leave disks.queue_b qb → may_leave disks.store_a sa → may_leave disks.store_b sb → FilesStand ttls qa qb sa sb history

pub record AreUntouched {D : Type 0} (seen : D → List ℕ) (may_leave : D → List ℕ → Type 0) (moment : D → ℕ) (left_since : D → ℕ → List ℕ → Type 0) (old new : Disks D) : Type 0 where
  pub queue_a : Untouched seen may_leave moment left_since old.queue_a new.queue_a
  pub queue_b : Untouched seen may_leave moment left_since old.queue_b new.queue_b
  pub store_a : Untouched seen may_leave moment left_since old.store_a new.store_a
  pub store_b : Untouched seen may_leave moment left_since old.store_b new.store_b

-- the same, with the ghosts of the trait as one value
abbrev pub AllAreUntouched : {D : Type 0} → disk.Ghosts D → Disks D → Disks D → Type 0
AllAreUntouched d = AreUntouched d.seen d.may_leave d.moment d.left_since

-- time doesn't go back in the queue's two files
abbrev pub QueueIsLater : {D : Type 0} → (D → ℕ) → Disks D → Disks D → Type 0
QueueIsLater moment old new = (moment old.queue_a ≤ moment new.queue_a) × (moment old.queue_b ≤ moment new.queue_b)

-- ---- an opening that failed

-- the records of the queue's two files, as they are read
abbrev pub queue_as_read : {D : Type 0} → (D → List ℕ) → Disks D → Option (List QueueRecord)
queue_as_read seen disks = records_at queue_at (seen disks.queue_a) (seen disks.queue_b)

-- these records are read, or these and the Done that was missing
abbrev pub HasWritten : Option ℕ → List QueueRecord → Option (List QueueRecord) → Type 0
HasWritten missing records read = (read ≡ Some records) ⊎ ((r : ℕ) × (missing ≡ Some r) × (read ≡ Some (records ++ Done r ∷ [])))

-- these are the records of the queue as it was read, or these and the Done that it lacked
abbrev pub IsReadOrMended : {D : Type 0} → (D → List ℕ) → Disks D → Option (List QueueRecord) → Type 0
IsReadOrMended seen old read =
    (read ≡ queue_as_read seen old)
    ⊎ ((queued : List QueueRecord) × (kept : List StoreRecord) × (r : ℕ) × (queue_as_read seen old ≡ Some queued)
    × (records_at store_at (seen old.store_a) (seen old.store_b) ≡ Some kept) × LacksDone queued kept r × (read ≡ Some (queued ++ Done r ∷ [])))

-- Whatever the images are: as they are read, the store's files stay, and the queue has the records of before, or these and the
-- Done that it lacked.
pub record KeepsRecords {D : Type 0} (seen : D → List ℕ) (old new : Disks D) : Type 0 where
  pub store_a : seen new.store_a ≡ seen old.store_a
  pub store_b : seen new.store_b ≡ seen old.store_b
  pub queue : IsReadOrMended seen old (queue_as_read seen new)

-- ---- at every moment within

-- Whatever the images are: first the logs are read, which adds no image at any moment. At every moment since, each image of the
-- queue's two disks is one of before, or has the records that were read, or these and the Done that lacked.
pub record KeepsImages {D : Type 0} (seen : D → List ℕ) (may_leave : D → List ℕ → Type 0) (moment : D → ℕ) (left_since : D → ℕ → List ℕ → Type 0) (old new : Disks D) : Type 0 where
  pub read : Disks D
  pub reading : AreUntouched seen may_leave moment left_since old read
  pub store_a : new.store_a ≡ read.store_a
  pub store_b : new.store_b ≡ read.store_b
  pub writing : (qa qb : List ℕ) → left_since new.queue_a (moment read.queue_a) qa → left_since new.queue_b (moment read.queue_b) qb
      → (may_leave old.queue_a qa × may_leave old.queue_b qb) ⊎ IsReadOrMended seen old (records_at queue_at qa qb)
  pub later : QueueIsLater moment read new

-- the same, with the ghosts of the trait as one value
abbrev pub AllImagesAreKept : {D : Type 0} → disk.Ghosts D → Disks D → Disks D → Type 0
AllImagesAreKept d = KeepsImages d.seen d.may_leave d.moment d.left_since

-- First the logs are read, which adds no image at any moment. Then the Done is written. At every moment since, each image of the
-- queue's two disks stands for the history, together with each of the store's.
pub record OpensWithin {D : Type 0} (seen : D → List ℕ) (may_leave : D → List ℕ → Type 0) (moment : D → ℕ) (left_since : D → ℕ → List ℕ → Type 0) (ttls : Ttls) (old new : Disks D) (history : History) : Type 0 where
  pub read : Disks D
  pub reading : AreUntouched seen may_leave moment left_since old read
  pub store_a : new.store_a ≡ read.store_a
  pub store_b : new.store_b ≡ read.store_b
  -- an image of the store at any moment, together with one of the queue at the start
  pub store_first : (qa qb sa sb : List ℕ) → may_leave old.queue_a qa → may_leave old.queue_b qb → left_since new.store_a (moment old.store_a) sa → left_since new.store_b (moment old.store_b) sb
      → FilesStand ttls qa qb sa sb history
  pub writing : (qa qb sa sb : List ℕ) → left_since new.queue_a (moment read.queue_a) qa → left_since new.queue_b (moment read.queue_b) qb
      → may_leave new.store_a sa → may_leave new.store_b sb → FilesStand ttls qa qb sa sb history
  pub later : QueueIsLater moment read new

-- the same, with the ghosts of the trait as one value
abbrev pub OpeningIsWithin : {D : Type 0} → disk.Ghosts D → Ttls → Disks D → Disks D → History → Type 0
OpeningIsWithin d = OpensWithin d.seen d.may_leave d.moment d.left_since

-- ---- the parts

-- the log is up, and has these records
pub record HasQueue {D : Type 0} (told : Bool) (seen : D → List ℕ) (may_leave : D → List ℕ → Type 0) (log : QueueLog D) (records : List QueueRecord) : Type 0 where
  pub up : QueueIsUp seen may_leave log
  pub is : IsTrue told → queued seen log ≡ Some records
  pub images : AllAre (QueueImages may_leave log) (Some records)

-- the same, with the ghosts of the trait as one value
abbrev pub QueueHolds : {D : Type 0} → disk.Ghosts D → QueueLog D → List QueueRecord → Type 0
QueueHolds d = HasQueue d.is_told d.seen d.may_leave

pub record HasStore {D : Type 0} (told : Bool) (seen : D → List ℕ) (may_leave : D → List ℕ → Type 0) (keeper : LogKeeper D) (records : List StoreRecord) : Type 0 where
  pub up : IsGood seen may_leave (pair_of keeper)
  pub is : IsTrue told → pair_records store_at seen (pair_of keeper) ≡ Some records
  pub images : AllAre (PairImages store_at may_leave (pair_of keeper)) (Some records)

-- the same, with the ghosts of the trait as one value
abbrev pub StoreHolds : {D : Type 0} → disk.Ghosts D → LogKeeper D → List StoreRecord → Type 0
StoreHolds d = HasStore d.is_told d.seen d.may_leave

-- the answer of opening the queue's log and reading it
abbrev pub MatchWaiting : {D : Type 0} → Result (QueueLog D × Reading) (OpenCoreFault × D × D) → PairImage → Type 0
MatchWaiting (Ok it) image = (records_in queue_at image ≡ Some it.1.found.value) × HasSize image (queue_size it.0)
MatchWaiting (Err (Damaged file at, a, b)) image = IsQueueDamageAt image file at
MatchWaiting (Err (QueueFault, a, b)) image = Unit {0}
MatchWaiting (Err (StoreFault, a, b)) image = ⊥
MatchWaiting (Err (Memory, a, b)) image = Unit {0}
MatchWaiting (Err (Spent, a, b)) image = ⊥

abbrev pub IsWaitingFault : {D : Type 0} → Result (QueueLog D × Reading) (OpenCoreFault × D × D) → Type 0
IsWaitingFault (Err (QueueFault, a, b)) = Unit {0}
IsWaitingFault _ = ⊥

abbrev pub queue_a_after : {D : Type 0} → Result (QueueLog D × Reading) (OpenCoreFault × D × D) → D
queue_a_after (Ok it) = disk_a (queue_pair it.0)
queue_a_after (Err e) = e.1

abbrev pub queue_b_after : {D : Type 0} → Result (QueueLog D × Reading) (OpenCoreFault × D × D) → D
queue_b_after (Ok it) = disk_b (queue_pair it.0)
queue_b_after (Err e) = e.2

-- the answer of opening the store's log and reading it
abbrev pub MatchStore : {D : Type 0} → Result (OpenStore D) (OpenCoreFault × D × D) → PairImage → Type 0
MatchStore (Ok it) image = records_in store_at image ≡ Some it.found.value
MatchStore (Err (Damaged file at, a, b)) image = IsStoreDamageAt image file at
MatchStore (Err (QueueFault, a, b)) image = ⊥
MatchStore (Err (StoreFault, a, b)) image = Unit {0}
MatchStore (Err (Memory, a, b)) image = Unit {0}
MatchStore (Err (Spent, a, b)) image = ⊥

abbrev pub IsFilledFault : {D : Type 0} → Result (OpenStore D) (OpenCoreFault × D × D) → Type 0
IsFilledFault (Err (StoreFault, a, b)) = Unit {0}
IsFilledFault _ = ⊥

abbrev pub store_a_after : {D : Type 0} → Result (OpenStore D) (OpenCoreFault × D × D) → D
store_a_after (Ok it) = disk_a (pair_of it.keeper)
store_a_after (Err e) = e.1

abbrev pub store_b_after : {D : Type 0} → Result (OpenStore D) (OpenCoreFault × D × D) → D
store_b_after (Ok it) = disk_b (pair_of it.keeper)
store_b_after (Err e) = e.2

-- ---- what both logs give

abbrev pub TellsMissing : Option ℕ → List QueueRecord → List StoreRecord → Type 0
TellsMissing None queued kept = (r : ℕ) → LacksDone queued kept r → ⊥
TellsMissing (Some r) queued kept = LacksDone queued kept r

-- the receipt that was applied last, if it is pending
abbrev pub IsLacking : Option ℕ → List Entry → Option ℕ → Type 0
IsLacking taken es None = (r : ℕ) → taken ≡ Some r → stands r es ≡ true → ⊥
IsLacking taken es (Some r) = (taken ≡ Some r) × (stands r es ≡ true)

abbrev pub greatest_of : ℕ → List Entry → ℕ
greatest_of n [] = n
greatest_of n (e ∷ es) = greatest_of (max n e.receipt) es

-- the greatest of a number and the receipts of the entries
pub record IsGreatest (last : ℕ) (es : List Entry) (greatest : ℕ) : Type 0 where
  pub below : AreBelow (greatest + 1) es
  pub least : last ≤ greatest
  pub most : (n : ℕ) → last ≤ n → AreBelow (n + 1) es → greatest ≤ n

-- what the core holds is what the records lead to
pub record HoldsRecords {D : Type 0} (core : LogCore D) : Type 0 where
  pub lawful : AllByRecursion IsQueueRecord (found_queue core)
  pub queue_log : IsQueueLog (found_queue core)
  pub store_log : IsStoreLog (found_store core)
  pub pending : core.pending ≡ pending_after (found_queue core) []
  pub dead : core.discards.list ≡ dead_after (found_queue core) [] []
  pub last : IsGreatest (last_after (found_queue core) 0) (pending_after (found_queue core) []) core.last
  pub ttls : Ttls
  pub rest : List StoreRecord
  pub first : found_store core ≡ settings ttls ∷ rest
  pub tables : core.tables ≡ table_after (found_store core) (empty_table ttls)
  pub lawful_tables : IsLawfulTable core.tables
  pub events : core.events.list ≡ Restart ∷ []
  pub undone : core.undone ≡ false

pub record IsReady {D : Type 0} (told : Bool) (seen : D → List ℕ) (may_leave : D → List ℕ → Type 0) (core : LogCore D) (missing : Option ℕ) : Type 0 where
  pub holds : HoldsRecords core
  pub queue : HasQueue told seen may_leave core.queue (found_queue core)
  pub store : HasStore told seen may_leave core.store (found_store core)
  pub tells : TellsMissing missing (found_queue core) (found_store core)

-- the same, with the ghosts of the trait as one value
abbrev pub CoreIsReady : {D : Type 0} → disk.Ghosts D → LogCore D → Option ℕ → Type 0
CoreIsReady d = IsReady d.is_told d.seen d.may_leave

-- the core has these two logs, and found these records
pub record IsMadeOf {D : Type 0} (core : LogCore D) (log : QueueLog D) (queue_records : List QueueRecord) (keeper : LogKeeper D) (store_records : List StoreRecord) (a b : ℕ) : Type 0 where
  pub queue : core.queue ≡ log
  pub store : core.store ≡ keeper
  pub queue_found : found_queue core ≡ queue_records
  pub store_found : found_store core ≡ store_records
  pub opened_a : core.opened_a ≡ a
  pub opened_b : core.opened_b ≡ b

abbrev pub MatchGathered : {D : Type 0} → Result (LogCore D × Option ℕ) (OpenCoreFault × Disks D) → PairImage → PairImage → Type 0
MatchGathered (Ok it) queue store = IsFound queue store (found_queue it.0) (found_store it.0) × HasSize queue (queue_size it.0.queue)
MatchGathered (Err (Damaged file at, disks)) queue store = IsCoreDamage queue store file at
MatchGathered (Err (QueueFault, disks)) queue store = Unit {0}
MatchGathered (Err (StoreFault, disks)) queue store = Unit {0}
MatchGathered (Err (Memory, disks)) queue store = Unit {0}
MatchGathered (Err (Spent, disks)) queue store = ⊥

abbrev pub as_core : {D : Type 0} → Result (LogCore D × Option ℕ) (OpenCoreFault × Disks D) → Result (LogCore D) (OpenCoreFault × Disks D)
as_core (Ok it) = Ok it.0
as_core (Err e) = Err e

-- the fault counts of a new core and of its keeper
pub record IsAtStart {D : Type 0} (fault_count : D → ℕ) (disks : Disks D) (core : LogCore D) : Type 0 where
  pub opened_a : core.opened_a ≡ fault_count disks.queue_a
  pub opened_b : core.opened_b ≡ fault_count disks.queue_b
  pub faults : faults_of core.store ≡ 0
  pub opened : opened_of core.store ≡ (fault_count disks.store_a, fault_count disks.store_b)
  pub within : IsWithin fault_count core.store (0, fault_count disks.store_a, fault_count disks.store_b)

-- ---- the missing Done

-- the records followed by the missing Done, if one is missing
abbrev pub written : Option ℕ → List QueueRecord → List QueueRecord
written None xs = xs
written (Some r) xs = xs ++ Done r ∷ []

-- Both logs have the records that were found. The queue's log also has the Done that was missing, if one was.
pub record HasLogs {D : Type 0} (told : Bool) (seen : D → List ℕ) (core : LogCore D) : Type 0 where
  pub missing : Option ℕ
  pub tells : TellsMissing missing (found_queue core) (found_store core)
  pub queue : IsTrue told → queued seen core.queue ≡ Some (written missing (found_queue core))
  pub store : IsTrue told → pair_records store_at seen (pair_of core.store) ≡ Some (found_store core)

-- For each history that the records stand for, the core stands for it followed by its events. Its lifetimes are those of the
-- records.
abbrev pub StandsForAll : {D : Type 0} → Bool → (D → List ℕ) → (D → List ℕ → Type 0) → LogCore D → Type 0
StandsForAll told seen may_leave core =
    (ttls : Ttls) (start : History) → Stands ttls (found_queue core) (found_store core) start → (core.tables.ttls ≡ ttls) × LogCoreStands told seen may_leave core start

-- the same, with the ghosts of the trait as one value
abbrev pub CoreStandsForAll : {D : Type 0} → disk.Ghosts D → LogCore D → Type 0
CoreStandsForAll d = StandsForAll d.is_told d.seen d.may_leave

pub record IsOpened {D : Type 0} (told : Bool) (seen : D → List ℕ) (may_leave : D → List ℕ → Type 0) (core : LogCore D) : Type 0 where
  pub stands : StandsForAll told seen may_leave core
  pub logs : HasLogs told seen core
  pub up : IsUpCore seen may_leave core
  pub events : core.events.list ≡ Restart ∷ []

-- the same, with the ghosts of the trait as one value
abbrev pub CoreIsOpened : {D : Type 0} → disk.Ghosts D → LogCore D → Type 0
CoreIsOpened d = IsOpened d.is_told d.seen d.may_leave

-- the same keeper, records and counts, and the queue's log in the same file
pub record IsSameCore {D : Type 0} (old new : LogCore D) : Type 0 where
  pub store : new.store ≡ old.store
  pub side : queue_side new.queue ≡ queue_side old.queue
  pub generation : generation_of_pair (queue_pair new.queue) ≡ generation_of_pair (queue_pair old.queue)
  pub queue_found : found_queue new ≡ found_queue old
  pub store_found : found_store new ≡ found_store old
  pub opened_a : new.opened_a ≡ old.opened_a
  pub opened_b : new.opened_b ≡ old.opened_b

abbrev pub fault_in : Kept → Option OpenCoreFault
fault_in kept.Ok = None
fault_in kept.Failed = Some QueueFault
fault_in kept.Down = Some QueueFault
fault_in kept.Memory = Some Memory
fault_in kept.Spent = Some Spent

-- the store's disks are unchanged
pub record SameStore {D : Type 0} (old : LogCore D) (new : Disks D) : Type 0 where
  pub store_a : new.store_a ≡ disk_a (pair_of old.store)
  pub store_b : new.store_b ≡ disk_b (pair_of old.store)

-- while the Done is written, each image of the queue's two disks stands for the history, together with each of the store's
abbrev pub Writes : {D : Type 0} → (D → List ℕ → Type 0) → (D → ℕ) → (D → ℕ → List ℕ → Type 0) → Ttls → Disks D → Disks D → History → Type 0
Writes may_leave moment left_since ttls old new history =
    (qa qb sa sb : List ℕ) → left_since new.queue_a (moment old.queue_a) qa → left_since new.queue_b (moment old.queue_b) qb
    → may_leave new.store_a sa → may_leave new.store_b sb → FilesStand ttls qa qb sa sb history

-- the same, with the ghosts of the trait as one value
abbrev pub WritesDone : {D : Type 0} → disk.Ghosts D → Ttls → Disks D → Disks D → History → Type 0
WritesDone d = Writes d.may_leave d.moment d.left_since

-- while the Done is written, each image of the queue's two disks has the records that were found, or these and the Done
abbrev pub WritesOnly : {D : Type 0} → disk.Ghosts D → Option ℕ → List QueueRecord → Disks D → Disks D → Type 0
WritesOnly d missing records old new =
    (qa qb : List ℕ) → d.left_since new.queue_a (d.moment old.queue_a) qa → d.left_since new.queue_b (d.moment old.queue_b) qb → HasWritten missing records (records_at queue_at qa qb)

abbrev pub MatchMended : {D : Type 0} → Result (LogCore D) (OpenCoreFault × Disks D) → Option ℕ → ℕ → Type 0
MatchMended (Ok core) missing size = (r : ℕ) → missing ≡ Some r → HasNoRoom size → ⊥
MatchMended (Err (Damaged file at, disks)) missing size = ⊥
MatchMended (Err (QueueFault, disks)) missing size = Unit {0}
MatchMended (Err (StoreFault, disks)) missing size = ⊥
MatchMended (Err (Memory, disks)) missing size = ⊥
MatchMended (Err (Spent, disks)) missing size = ((r : ℕ) × (missing ≡ Some r)) × HasNoRoom size
