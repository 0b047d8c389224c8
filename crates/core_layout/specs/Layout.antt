-- What an initialization does to the four disks.
use Rattle.std.specs.Prelude.{◌≡◌, ◌⊎◌, ℕ, List, [], map}
use Rattle.log_pair.specs.fleet_ports.declared.disk.Disk as disk
use Rattle.log_pair.specs.fleet_ports.Moments.{Untouched}
use Rattle.log_pair.specs.fleet_ports.declared.disk.Disks.{Disks}
use Rattle.core_spec.specs.log_spec.Image.{IsOpen, closed}
use Rattle.core_spec.specs.log_spec.ImageOf.{image_of, laid_image}
use Rattle.log_pair.specs.record_log.Lay.{IsClosed}
use Rattle.log_pair.specs.record_log.Log.{AllStand}
use Rattle.log_pair.specs.Lay.{laid_pair}
use Rattle.log_pair.specs.Pair.{EachPair, IsPair}
use Rattle.queue_records.specs.fleet_rows.declared.settings.Ttls.{Ttls}
use Rattle.queue_records.specs.record_spec.Queue.{queue_text}
use Rattle.queue_records.specs.record_spec.Store.{store_text}
use Rattle.core_spec.specs.Files.{FilesStand}
use Rattle.core_layout.specs.Records.{first_queued, first_kept}
use Rattle.core_layout.specs.declared.laid.LayCoreFault.{LayCoreFault}
use Rattle.core_layout.specs.declared.laid.LayCoreFault.TheVariants as fault

-- ---- images of the four files

-- P holds of every image of the four disks
abbrev pub EachImage : {D : Type 0} → (D → List ℕ → Type 0) → Disks D → (List ℕ → List ℕ → List ℕ → List ℕ → Type 0) → Type 0
EachImage may_leave disks P =
    (queue_a queue_b store_a store_b : List ℕ) → may_leave disks.queue_a queue_a → may_leave disks.queue_b queue_b
    → may_leave disks.store_a store_a → may_leave disks.store_b store_b → P queue_a queue_b store_a store_b

-- P holds of each image at every moment within a call that writes one file after the other. The order is the store's second file,
-- its first, the queue's second, its first. The file being written has an image since the call's start. The files before it are
-- as at return, those after it as at the call.
pub record InOrder {D : Type 0} (may_leave : D → List ℕ → Type 0) (moment : D → ℕ) (left_since : D → ℕ → List ℕ → Type 0) (old new : Disks D) (P : List ℕ → List ℕ → List ℕ → List ℕ → Type 0) : Type 0 where
  pub store_b : (queue_a queue_b store_a store_b : List ℕ) → may_leave old.queue_a queue_a → may_leave old.queue_b queue_b
      → may_leave old.store_a store_a → left_since new.store_b (moment old.store_b) store_b → P queue_a queue_b store_a store_b
  pub store_a : (queue_a queue_b store_a store_b : List ℕ) → may_leave old.queue_a queue_a → may_leave old.queue_b queue_b
      → left_since new.store_a (moment old.store_a) store_a → may_leave new.store_b store_b → P queue_a queue_b store_a store_b
  pub queue_b : (queue_a queue_b store_a store_b : List ℕ) → may_leave old.queue_a queue_a → left_since new.queue_b (moment old.queue_b) queue_b
      → may_leave new.store_a store_a → may_leave new.store_b store_b → P queue_a queue_b store_a store_b
  pub queue_a : (queue_a queue_b store_a store_b : List ℕ) → left_since new.queue_a (moment old.queue_a) queue_a → may_leave new.queue_b queue_b
      → may_leave new.store_a store_a → may_leave new.store_b store_b → P queue_a queue_b store_a store_b

-- the same, with the ghosts of the trait as one value
abbrev pub LaysInOrder : {D : Type 0} → disk.Ghosts D → Disks D → Disks D → (List ℕ → List ℕ → List ℕ → List ℕ → Type 0) → Type 0
LaysInOrder d = InOrder d.may_leave d.moment d.left_since

-- no file of the queue is open
abbrev pub IsUnlaid : List ℕ → List ℕ → Type 0
IsUnlaid queue_a queue_b = (IsOpen queue_a → ⊥) × (IsOpen queue_b → ⊥)

-- no file of the queue is open, or the files stand for the empty history
abbrev pub IsUnlaidOrEmpty : Ttls → List ℕ → List ℕ → List ℕ → List ℕ → Type 0
IsUnlaidOrEmpty ttls queue_a queue_b store_a store_b = IsUnlaid queue_a queue_b ⊎ FilesStand ttls [] queue_a queue_b store_a store_b

-- no image is open
abbrev pub NoneIsOpen : (List ℕ → Type 0) → Type 0
NoneIsOpen images = (c : List ℕ) → images c → IsOpen c → ⊥

-- no image has an open file of the queue
abbrev pub AreUnlaid : {D : Type 0} → (D → List ℕ → Type 0) → Disks D → Type 0
AreUnlaid may_leave disks = NoneIsOpen (may_leave disks.queue_a) × NoneIsOpen (may_leave disks.queue_b)

-- ---- initialized files

-- the queue's first file counts, with generation 1 and the first record; likewise the store's, with its first records
abbrev pub IsQueueLaid : List ℕ → List ℕ → Type 0
IsQueueLaid a b = IsPair (laid_pair (map queue_text first_queued)) a b

abbrev pub IsStoreLaid : Ttls → List ℕ → List ℕ → Type 0
IsStoreLaid ttls a b = IsPair (laid_pair (map store_text (first_kept ttls))) a b

abbrev pub IsAllLaid : Ttls → List ℕ → List ℕ → List ℕ → List ℕ → Type 0
IsAllLaid ttls queue_a queue_b store_a store_b = IsQueueLaid queue_a queue_b × IsStoreLaid ttls store_a store_b

-- the store is initialized in every image
abbrev pub StoreIsLaid : {D : Type 0} → (D → List ℕ → Type 0) → Ttls → Disks D → Type 0
StoreIsLaid may_leave ttls disks = EachPair (may_leave disks.store_a) (may_leave disks.store_b) (IsStoreLaid ttls)

-- ---- what is read

abbrev pub EitherIsOpen : {D : Type 0} → (D → List ℕ) → D → D → Type 0
EitherIsOpen seen a b = IsOpen (seen a) ⊎ IsOpen (seen b)

-- a file of the queue is open, and so is one of the store
abbrev pub AreOpen : {D : Type 0} → (D → List ℕ) → Disks D → Type 0
AreOpen seen disks = EitherIsOpen seen disks.queue_a disks.queue_b × EitherIsOpen seen disks.store_a disks.store_b

-- ---- files that were at most read

pub record QueueUntouched {D : Type 0} (seen : D → List ℕ) (may_leave : D → List ℕ → Type 0) (moment : D → ℕ) (left_since : D → ℕ → List ℕ → Type 0) (old new : Disks D) : Type 0 where
  pub a : Untouched seen may_leave moment left_since old.queue_a new.queue_a
  pub b : Untouched seen may_leave moment left_since old.queue_b new.queue_b

-- the same, with the ghosts of the trait as one value
abbrev pub QueueIsUntouched : {D : Type 0} → disk.Ghosts D → Disks D → Disks D → Type 0
QueueIsUntouched d = QueueUntouched d.seen d.may_leave d.moment d.left_since

pub record AllUntouched {D : Type 0} (seen : D → List ℕ) (may_leave : D → List ℕ → Type 0) (moment : D → ℕ) (left_since : D → ℕ → List ℕ → Type 0) (old new : Disks D) : Type 0 where
  pub queue_a : Untouched seen may_leave moment left_since old.queue_a new.queue_a
  pub queue_b : Untouched seen may_leave moment left_since old.queue_b new.queue_b
  pub store_a : Untouched seen may_leave moment left_since old.store_a new.store_a
  pub store_b : Untouched seen may_leave moment left_since old.store_b new.store_b

-- the same, with the ghosts of the trait as one value
abbrev pub AllAreUntouched : {D : Type 0} → disk.Ghosts D → Disks D → Disks D → Type 0
AllAreUntouched d = AllUntouched d.seen d.may_leave d.moment d.left_since

-- Each file is at most read until those before it are done. The store's first file waits until its second is closed. The queue's
-- second waits until the store is initialized, and its first until its second is closed too.
pub record InTurn {D : Type 0} (seen : D → List ℕ) (may_leave : D → List ℕ → Type 0) (moment : D → ℕ) (left_since : D → ℕ → List ℕ → Type 0) (ttls : Ttls) (old new : Disks D) : Type 0 where
  pub store_a : Untouched seen may_leave moment left_since old.store_a new.store_a ⊎ AllStand (may_leave new.store_b) closed
  pub queue_b : Untouched seen may_leave moment left_since old.queue_b new.queue_b ⊎ StoreIsLaid may_leave ttls new
  pub queue_a : Untouched seen may_leave moment left_since old.queue_a new.queue_a ⊎ (StoreIsLaid may_leave ttls new × AllStand (may_leave new.queue_b) closed)

-- the same, with the ghosts of the trait as one value
abbrev pub LaysInTurn : {D : Type 0} → disk.Ghosts D → Ttls → Disks D → Disks D → Type 0
LaysInTurn d = InTurn d.seen d.may_leave d.moment d.left_since

-- ---- what the steps of an initialization tell

-- the answers of a disk's fault
abbrev pub IsDiskFault : LayCoreFault → Type 0
IsDiskFault fault.QueueFault = Unit {0}
IsDiskFault fault.StoreFault = Unit {0}
IsDiskFault fault.AlreadyLaid = ⊥
IsDiskFault fault.Memory = ⊥

-- the file is closed, or it is initialized and so is the other log
abbrev pub IsClosedOrLaid : List (List ℕ) → Type 0 → List ℕ → Type 0
IsClosedOrLaid frames OtherIsLaid c = IsClosed c ⊎ ((image_of c ≡ laid_image 1 frames) × OtherIsLaid)

-- the first file is unchanged until the second is closed
abbrev pub IsSecondFirst : {D : Type 0} → (D → List ℕ → Type 0) → D → D → D → Type 0
IsSecondFirst may_leave a new_a new_b = (new_a ≡ a) ⊎ AllStand (may_leave new_b) closed
