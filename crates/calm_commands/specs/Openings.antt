-- What an opening does to the four disks, and what it answers.
use Rattle.std.specs.Prelude.{◌≡◌, ◌⊎◌, ℕ, Bool, List, [], ◌∷◌, IsTrue}
use Rattle.query_answer.specs.fleet_ports.Counts.{Rose, RoseBy}
use Rattle.query_answer.specs.fleet_ports.declared.disk.Disk as disk
use Rattle.query_answer.specs.fleet_ports.declared.disk.Disks.{Disks}
use Rattle.query_answer.specs.fleet_rows.declared.settings.Ttls.{Ttls}
use Rattle.command_core.specs.log_pair.Open.{PairCounts}
use Rattle.command_core.specs.log_spec.ImageOf.{image_of}
use Rattle.command_core.specs.log_spec.PairImage.{PairImage, pair_image}
use Rattle.command_core.specs.core_spec.declared.event.Event.TheVariants.{Restart}
use Rattle.command_core.specs.core_spec.History.{History}
use Rattle.command_core.specs.core_opening.declared.faults.FileName.{FileName}
use Rattle.command_core.specs.core_opening.declared.faults.OpenCoreFault.{OpenCoreFault}
use Rattle.command_core.specs.core_opening.declared.faults.OpenCoreFault.TheVariants as fault
use Rattle.command_core.specs.core_opening.Opened.{LogCore, found_queue, found_store, IsFound, HadRoom, GoesOn, LacksRoom, IsCoreDamage, LogCoreStands, IsUpCore, IsAtStart, StandsForAll, HasLogs, disks_in, FilesStand, DisksStand, AreUntouched, KeepsRecords, KeepsImages, OpensWithin}
use Rattle.calm_commands.specs.declared.status.Status.{Status}
use Rattle.calm_commands.specs.declared.status.Status.TheVariants as status

-- ---- what contracts see of disks

-- the members of the trait, as one value
pub record DiskSight (D : Type 0) : Type 1 where
  pub tells : Bool
  pub seen : D → List ℕ
  pub may_leave : D → List ℕ → Type 0
  pub moment : D → ℕ
  pub left_since : D → ℕ → List ℕ → Type 0
  pub faults : D → ℕ

abbrev pub disk_sight : {D : Type 0} → Bool → (D → List ℕ) → (D → List ℕ → Type 0) → (D → ℕ) → (D → ℕ → List ℕ → Type 0) → (D → ℕ) → DiskSight D
disk_sight tells seen may_leave moment left_since faults = record { tells = tells; seen = seen; may_leave = may_leave; moment = moment; left_since = left_since; faults = faults }

-- what contracts see of disks, from the ghosts of the trait
abbrev pub disk_sight_of : {D : Type 0} → disk.Ghosts D → DiskSight D
disk_sight_of d = disk_sight d.is_told d.seen d.may_leave d.moment d.left_since d.fault_count

abbrev pub queue_files : {D : Type 0} → DiskSight D → Disks D → PairImage
queue_files w disks = pair_image (image_of (w.seen disks.queue_a)) (image_of (w.seen disks.queue_b))

abbrev pub store_files : {D : Type 0} → DiskSight D → Disks D → PairImage
store_files w disks = pair_image (image_of (w.seen disks.store_a)) (image_of (w.seen disks.store_b))

-- the files are damaged there; damage of the queue comes before damage of the store
abbrev pub AreDamagedAt : {D : Type 0} → DiskSight D → Disks D → FileName → ℕ → Type 0
AreDamagedAt w disks file at = IsCoreDamage (queue_files w disks) (store_files w disks) file at

-- the queue misses a Done, and has no room for it
abbrev pub LackRoom : {D : Type 0} → DiskSight D → Disks D → Type 0
LackRoom w disks = LacksRoom (queue_files w disks) (store_files w disks)

-- the files stand for the history, as they are read
abbrev pub StandAsRead : {D : Type 0} → DiskSight D → Disks D → Ttls → History → Type 0
StandAsRead w disks ttls history = FilesStand ttls (w.seen disks.queue_a) (w.seen disks.queue_b) (w.seen disks.store_a) (w.seen disks.store_b) history

-- If disks tell content, P holds of each history that the files stand for, as they are read. After a write whose repair failed, a
-- crash may leave images of another history. So this says more than a statement about the history of all images.
abbrev pub ForEachHistory : {D : Type 0} → DiskSight D → Disks D → (Ttls → History → Type 0) → Type 0
ForEachHistory w disks P = IsTrue w.tells → (ttls : Ttls) (history : History) → StandAsRead w disks ttls history → P ttls history

-- if disks tell content, P holds of each history that each of their images stands for
abbrev pub ForEachImages : {D : Type 0} → DiskSight D → Disks D → (Ttls → History → Type 0) → Type 0
ForEachImages w disks P = IsTrue w.tells → (ttls : Ttls) (history : History) → DisksStand w.may_leave ttls disks history → P ttls history

-- what may be on the disks within an opening
abbrev pub OpensSo : {D : Type 0} → DiskSight D → Disks D → Disks D → Ttls → History → Type 0
OpensSo w disks after ttls history = OpensWithin w.seen w.may_leave w.moment w.left_since ttls disks after history

-- the same, whatever the images were
abbrev pub KeepsAllImages : {D : Type 0} → DiskSight D → Disks D → Disks D → Type 0
KeepsAllImages w disks after = IsTrue w.tells → KeepsImages w.seen w.may_leave w.moment w.left_since disks after

-- the fault counts of the queue's disks
abbrev pub QueueDisksCount : {D : Type 0} → DiskSight D → Disks D → Disks D → Type 0 → Type 0
QueueDisksCount w disks after Fault = PairCounts (w.faults disks.queue_a) (w.faults after.queue_a) (w.faults disks.queue_b) (w.faults after.queue_b) Fault

abbrev pub StoreDisksCount : {D : Type 0} → DiskSight D → Disks D → Disks D → Type 0 → Type 0
StoreDisksCount w disks after Fault = PairCounts (w.faults disks.store_a) (w.faults after.store_a) (w.faults disks.store_b) (w.faults after.store_b) Fault

-- the fault count of one of the store's disks rose, or stands at 2^64 - 1
abbrev pub StoreRose : {D : Type 0} → DiskSight D → Disks D → Disks D → Type 0
StoreRose w disks after = Rose (w.faults disks.store_a) (w.faults after.store_a) ⊎ Rose (w.faults disks.store_b) (w.faults after.store_b)

-- the fault count of one of the store's disks rose by two, or stands at 2^64 - 1
abbrev pub StoreRoseTwice : {D : Type 0} → DiskSight D → Disks D → Disks D → Type 0
StoreRoseTwice w disks after = RoseBy 2 (w.faults disks.store_a) (w.faults after.store_a) ⊎ RoseBy 2 (w.faults disks.store_b) (w.faults after.store_b)

-- ---- an opened core

-- A core was opened. The core and each image of the disks now stand for each history that the files stand for, as they are read,
-- with the restart. Within the opening an image may still be one of before, and stands for what those stood for.
pub record OpensTo {D : Type 0} (w : DiskSight D) (disks : Disks D) (core : LogCore D) : Type 0 where
  pub found : IsTrue w.tells → IsFound (queue_files w disks) (store_files w disks) (found_queue core) (found_store core)
  pub had_room : IsTrue w.tells → HadRoom (queue_files w disks) (found_queue core) (found_store core)
  pub goes_on : IsTrue w.tells → GoesOn (queue_files w disks) (store_files w disks) core
  pub undamaged : IsTrue w.tells → (file : FileName) (at : ℕ) → AreDamagedAt w disks file at → ⊥
  pub roomy : IsTrue w.tells → LackRoom w disks → ⊥
  pub stands : StandsForAll w.tells w.seen w.may_leave core
  pub stands_for : ForEachHistory w disks (λ ttls history. (core.tables.ttls ≡ ttls) × LogCoreStands w.tells w.seen w.may_leave core history)
  pub logs : HasLogs w.tells w.seen core
  pub up : IsUpCore w.seen w.may_leave core
  pub events : core.events.list ≡ Restart ∷ []
  pub start : IsAtStart w.faults disks core
  pub any_moment : ForEachImages w disks (OpensSo w disks (disks_in core))
  -- at every moment within, each image is one of before, or has the records as they were read, or these and the Done that lacked
  pub images : KeepsAllImages w disks (disks_in core)
  pub leaves : ForEachHistory w disks (λ ttls history. DisksStand w.may_leave ttls (disks_in core) (Restart ∷ history))
  -- what is read is one of the images, so a history that each of them stands for is one of these
  pub read : ForEachImages w disks (StandAsRead w disks)
  pub queue_counts : QueueDisksCount w disks (disks_in core) ⊥
  pub store_counts : StoreDisksCount w disks (disks_in core) ⊥

-- ---- no core was opened

abbrev pub opening_status : OpenCoreFault → Status
opening_status fault.QueueFault = status.QueueFault
opening_status fault.StoreFault = status.StoreFault
opening_status (fault.Damaged file at) = status.Damaged file at
opening_status fault.Memory = status.Memory
opening_status fault.Spent = status.Spent

-- the ends of a command whose opening fails
abbrev pub IsOpeningEnd : Status → Type 0
IsOpeningEnd status.QueueFault = Unit {0}
IsOpeningEnd status.StoreFault = Unit {0}
IsOpeningEnd (status.Damaged file at) = Unit {0}
IsOpeningEnd status.Memory = Unit {0}
IsOpeningEnd status.Spent = Unit {0}
IsOpeningEnd _ = ⊥

-- the ends for damaged files: the damage, or an earlier fault, or missing memory
abbrev pub IsDamagedEnd : Status → Type 0
IsDamagedEnd (status.Damaged file at) = Unit {0}
IsDamagedEnd status.QueueFault = Unit {0}
IsDamagedEnd status.StoreFault = Unit {0}
IsDamagedEnd status.Memory = Unit {0}
IsDamagedEnd _ = ⊥

-- the ends for files without room: that, or an earlier fault, or missing memory
abbrev pub IsSpentEnd : Status → Type 0
IsSpentEnd status.Spent = Unit {0}
IsSpentEnd status.QueueFault = Unit {0}
IsSpentEnd status.StoreFault = Unit {0}
IsSpentEnd status.Memory = Unit {0}
IsSpentEnd _ = ⊥

-- How the files found decide the end. Damage is reported exactly if there is damage, and never on what an earlier run left.
pub record TellsFiles {D : Type 0} (w : DiskSight D) (disks : Disks D) (answer : Status) : Type 0 where
  pub damaged : IsTrue w.tells → (file : FileName) (at : ℕ) → answer ≡ status.Damaged file at → AreDamagedAt w disks file at
  pub told : IsTrue w.tells → (file : FileName) (at : ℕ) → AreDamagedAt w disks file at → IsDamagedEnd answer
  pub never : ForEachHistory w disks (λ ttls history. (file : FileName) (at : ℕ) → answer ≡ status.Damaged file at → ⊥)
  pub spent : IsTrue w.tells → LackRoom w disks → IsSpentEnd answer

-- No core was opened. The disks stand for what each of their images stood for.
pub record IsUnopened {D : Type 0} (w : DiskSight D) (disks after : Disks D) (answer : Status) : Type 0 where
  pub ends : IsOpeningEnd answer
  pub files : TellsFiles w disks answer
  pub full : IsTrue w.tells → answer ≡ status.Spent → LackRoom w disks
  pub any_moment : ForEachImages w disks (OpensSo w disks after)
  pub leaves : ForEachImages w disks (λ ttls history. DisksStand w.may_leave ttls after (Restart ∷ history))
  pub untouched : (answer ≡ status.QueueFault → ⊥) → AreUntouched w.seen w.may_leave w.moment w.left_since disks after
  -- whatever the images were, the records are those of before, as they are read, or these and the Done that the queue lacked
  pub kept : IsTrue w.tells → KeepsRecords w.seen disks after
  pub images : KeepsAllImages w disks after
  pub queue_counts : QueueDisksCount w disks after (answer ≡ status.QueueFault)
  pub store_counts : StoreDisksCount w disks after (answer ≡ status.StoreFault)
