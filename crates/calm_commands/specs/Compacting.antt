-- What a compaction does to the disks.
use Rattle.std.specs.Prelude.{◌≡◌, ◌⊎◌, ℕ, ◌+◌, List, ◌∷◌, map, Some, None, IsTrue}
use Rattle.query_answer.specs.fleet_ports.declared.disk.Disks.{Disks}
use Rattle.query_answer.specs.fleet_rows.declared.settings.Ttls.{Ttls}
use Rattle.command_core.specs.log_pair.Pair.{flipped}
use Rattle.command_core.specs.log_spec.ImageOf.{image_of}
use Rattle.command_core.specs.log_spec.PairImage.{PairImage, broken, counts, pair_image}
use Rattle.command_core.specs.record_spec.Queue.{queue_text}
use Rattle.command_core.specs.record_spec.Store.{store_text}
use Rattle.command_core.specs.queue_records.Reading.{queue_at}
use Rattle.command_core.specs.store_records.Reading.{store_at}
use Rattle.command_core.specs.core_spec.declared.event.Event.TheVariants.{Restart}
use Rattle.command_core.specs.core_spec.Checkpoints.{queue_checkpoint, store_checkpoint}
use Rattle.command_core.specs.core_spec.History.{History, trace_of}
use Rattle.command_core.specs.fleet_keeper.Limits.{ArePast}
use Rattle.command_core.specs.fleet_keeper.Pairs.{records_at}
use Rattle.command_core.specs.core_compact.declared.answers.Compacted.{Compacted}
use Rattle.command_core.specs.core_compact.declared.answers.Compacted.TheVariants as came
use Rattle.command_core.specs.core_compact.Compacts.{queue_records, store_records}
use Rattle.command_core.specs.core_opening.declared.faults.FileName.{FileName}
use Rattle.command_core.specs.core_opening.Opened.{LogCore, disks_in, FilesStand, DisksStand, AreUntouched}
use Rattle.calm_commands.specs.declared.status.Status.{Status}
use Rattle.calm_commands.specs.declared.status.Status.TheVariants as status
use Rattle.calm_commands.specs.Openings.{DiskSight, queue_files, store_files, ForEachHistory, ForEachImages, OpensSo, OpensTo, IsUnopened, LackRoom, TellsFiles, QueueDisksCount, StoreDisksCount, StoreRose, IsOpeningEnd}

-- a core that was just opened doesn't answer `Down`
abbrev pub compact_status : Compacted → Status
compact_status came.Ok = status.Done
compact_status came.QueueFault = status.QueueFault
compact_status came.StoreFault = status.StoreFault
compact_status came.Spent = status.Spent
compact_status came.Down = status.Memory
compact_status came.Memory = status.Memory

abbrev pub IsCompactEnd : Status → Type 0
IsCompactEnd status.Done = Unit {0}
IsCompactEnd s = IsOpeningEnd s

-- After the opening the store's disks are written, and after them the queue's. Each image of the disks being written, with each of
-- the others, stands for the history and the restart. Only Done and QueueFault write the queue's disks after the opening. Memory
-- leaves the store's as they were, too.
pub record CompactsOn {D : Type 0} (w : DiskSight D) (opened after : Disks D) (answer : Status) (ttls : Ttls) (history : History) : Type 0 where
  pub store_first : (qa qb sa sb : List ℕ) → w.may_leave opened.queue_a qa → w.may_leave opened.queue_b qb
      → w.left_since after.store_a (w.moment opened.store_a) sa → w.left_since after.store_b (w.moment opened.store_b) sb
      → FilesStand ttls qa qb sa sb (Restart ∷ history)
  pub then_queue : (qa qb sa sb : List ℕ) → w.left_since after.queue_a (w.moment opened.queue_a) qa → w.left_since after.queue_b (w.moment opened.queue_b) qb
      → w.may_leave after.store_a sa → w.may_leave after.store_b sb
      → FilesStand ttls qa qb sa sb (Restart ∷ history)
  pub queue_waits : (answer ≡ status.Done → ⊥) → (answer ≡ status.QueueFault → ⊥) → (after.queue_a ≡ opened.queue_a) × (after.queue_b ≡ opened.queue_b)
  pub store_waits : answer ≡ status.Memory → (after.store_a ≡ opened.store_a) × (after.store_b ≡ opened.store_b)

-- first a core is opened
pub record CompactsWithin {D : Type 0} (w : DiskSight D) (disks after : Disks D) (answer : Status) (ttls : Ttls) (history : History) : Type 0 where
  pub opened : Disks D
  pub opening : OpensSo w disks opened ttls history
  pub compacts : CompactsOn w opened after answer ttls history

-- No core was opened. Or one was, whatever the images were, and then both logs were written for what the files stood for.
abbrev pub CompactsOver : {D : Type 0} → DiskSight D → Disks D → Disks D → Status → Type 0
CompactsOver {D} w disks after answer =
    IsUnopened w disks after answer ⊎ ((core : LogCore D) × OpensTo w disks core × ForEachHistory w disks (CompactsOn w (disks_in core) after answer))

-- ---- what is written

-- in each image both logs are exactly the checkpoints of the history and the restart
abbrev pub AreCompacted : {D : Type 0} → DiskSight D → Disks D → Ttls → History → Type 0
AreCompacted w after ttls history =
    (qa qb sa sb : List ℕ) → w.may_leave after.queue_a qa → w.may_leave after.queue_b qb → w.may_leave after.store_a sa → w.may_leave after.store_b sb
    → (records_at queue_at qa qb ≡ Some (queue_checkpoint (Restart ∷ history)))
    × (records_at store_at sa sb ≡ Some (store_checkpoint ttls None (trace_of (Restart ∷ history))))

-- the other file of the pair counts now, with the next generation
abbrev pub Turned : PairImage → PairImage → Type 0
Turned (broken side place) now = ⊥
Turned (counts side generation frames gate) (broken file place) = ⊥
Turned (counts side generation frames gate) (counts file number texts end) = (file ≡ flipped side) × (number ≡ generation + 1)

-- in each image of the queue, compared with the files as they were found
abbrev pub QueueTurned : {D : Type 0} → DiskSight D → Disks D → Disks D → Type 0
QueueTurned w disks after = (a b : List ℕ) → w.may_leave after.queue_a a → w.may_leave after.queue_b b → Turned (queue_files w disks) (pair_image (image_of a) (image_of b))

abbrev pub StoreTurned : {D : Type 0} → DiskSight D → Disks D → Disks D → Type 0
StoreTurned w disks after = (a b : List ℕ) → w.may_leave after.store_a a → w.may_leave after.store_b b → Turned (store_files w disks) (pair_image (image_of a) (image_of b))

-- ---- no room

-- no next generation is left, or one of the spellings is too long for a frame, or the log of all would be too long
abbrev pub HasNoTurn : PairImage → List (List ℕ) → Type 0
HasNoTurn (broken side place) texts = ⊥
HasNoTurn (counts side generation frames gate) texts = ArePast generation texts

-- the store's log can't be compacted, and is as it was opened
abbrev pub StoreIsSpent : {D : Type 0} → DiskSight D → Disks D → Disks D → LogCore D → Type 0
StoreIsSpent w disks after core =
    HasNoTurn (store_files w disks) (map store_text (store_records core)) × (after.store_a ≡ (disks_in core).store_a) × (after.store_b ≡ (disks_in core).store_b)

-- the queue's log can't be compacted, and the store's was
abbrev pub QueueIsSpent : {D : Type 0} → DiskSight D → Disks D → Disks D → LogCore D → Type 0
QueueIsSpent w disks after core = HasNoTurn (queue_files w disks) (map queue_text (queue_records core)) × StoreTurned w disks after

-- a core was opened, and one of its logs can't be compacted
abbrev pub LogIsFull : {D : Type 0} → DiskSight D → Disks D → Disks D → Type 0
LogIsFull {D} w disks after = (core : LogCore D) × OpensTo w disks core × (StoreIsSpent w disks after core ⊎ QueueIsSpent w disks after core)

-- A core was opened whose store's log can be compacted, and so can its queue's log. If the store failed, the queue's log wasn't
-- tried.
abbrev pub LogsHaveRoom : {D : Type 0} → DiskSight D → Disks D → Status → Type 0
LogsHaveRoom {D} w disks answer =
    (core : LogCore D) × OpensTo w disks core × (HasNoTurn (store_files w disks) (map store_text (store_records core)) → ⊥)
    × ((answer ≡ status.StoreFault → ⊥) → HasNoTurn (queue_files w disks) (map queue_text (queue_records core)) → ⊥)

-- ---- the command

-- Both logs are compacted, and the disks stand for what each of their images stood for. After an opening they also stand for what
-- the files stood for, as they were read. Damaged files are unchanged.
pub record IsCompactRun {D : Type 0} (w : DiskSight D) (disks after : Disks D) (answer : Status) : Type 0 where
  pub ends : IsCompactEnd answer
  pub files : TellsFiles w disks answer
  pub full : IsTrue w.tells → answer ≡ status.Spent → LackRoom w disks ⊎ LogIsFull w disks after
  -- so Spent comes wherever a log can't be compacted, unless memory is missing or a fault comes first
  pub roomy : IsTrue w.tells → (answer ≡ status.Spent → ⊥) → (answer ≡ status.Memory → ⊥) → IsUnopened w disks after answer ⊎ LogsHaveRoom w disks answer
  pub any_moment : ForEachImages w disks (CompactsWithin w disks after answer)
  pub each_moment : CompactsOver w disks after answer
  pub leaves : ForEachImages w disks (λ ttls history. DisksStand w.may_leave ttls after (Restart ∷ history))
  pub left : IsUnopened w disks after answer ⊎ ForEachHistory w disks (λ ttls history. DisksStand w.may_leave ttls after (Restart ∷ history))
  pub compacted : answer ≡ status.Done → ForEachHistory w disks (AreCompacted w after)
  -- this holds whatever the files stood for
  pub turned : IsTrue w.tells → answer ≡ status.Done → QueueTurned w disks after × StoreTurned w disks after
  pub half_turned : IsTrue w.tells → answer ≡ status.QueueFault → IsUnopened w disks after answer ⊎ StoreTurned w disks after
  pub untouched : (file : FileName) (at : ℕ) → answer ≡ status.Damaged file at → AreUntouched w.seen w.may_leave w.moment w.left_since disks after
  pub queue_counts : QueueDisksCount w disks after (answer ≡ status.QueueFault)
  pub store_cause : answer ≡ status.StoreFault → StoreRose w disks after
  pub store_calm : answer ≡ status.Memory → StoreDisksCount w disks after ⊥
