-- What the commands without workers do to the disks, and what they print.
use Rattle.std.specs.Prelude.{◌≡◌, ◌≢◌, ◌⊎◌, ℕ, ℤ, IsTrue, List, [], ◌∷◌, ◌++◌, Option, Some, None}
use Rattle.std.specs.Io.KnownBytes.{Appends, Keeps}
use Rattle.query_answer.specs.fleet_ports.Counts.{Counts}
use Rattle.query_answer.specs.fleet_ports.declared.disk.Disks.{Disks}
use Rattle.query_answer.specs.fleet_rows.declared.settings.Kinds.{Kinds}
use Rattle.query_answer.specs.fleet_rows.declared.settings.Ttls.{Ttls}
use Rattle.command_core.specs.log_pair.Pair.{size_of_pair}
use Rattle.command_core.specs.record_spec.declared.store.StoreRecord.TheVariants as store
use Rattle.command_core.specs.record_spec.Store.{store_text}
use Rattle.command_core.specs.core_spec.declared.dead.Dead.{Dead}
use Rattle.command_core.specs.core_spec.declared.event.Event.TheVariants.{Sweep, Restart}
use Rattle.command_core.specs.core_spec.Discards.{dead_of}
use Rattle.command_core.specs.core_spec.History.{History}
use Rattle.command_core.specs.fleet_keeper.Keeper.{pair_of}
use Rattle.command_core.specs.fleet_keeper.Limits.{IsPast}
use Rattle.command_core.specs.retry_discard.Kept.{dead_at}
use Rattle.command_core.specs.retry_discard.Line.{IsLineOf}
use Rattle.command_core.specs.core_opening.declared.faults.FileName.{FileName}
use Rattle.command_core.specs.core_opening.Opened.{LogCore, disks_in, FilesStand, DisksStand, AreUntouched}
use Rattle.calm_commands.specs.declared.status.Status.{Status}
use Rattle.calm_commands.specs.declared.status.Status.TheVariants as status
use Rattle.calm_commands.specs.Told.{Stream, AppendsLess}
use Rattle.calm_commands.specs.Openings.{DiskSight, ForEachHistory, ForEachImages, KeepsAllImages, OpensSo, OpensTo, IsUnopened, LackRoom, TellsFiles, QueueDisksCount, StoreDisksCount, StoreRose, StoreRoseTwice, IsOpeningEnd}

-- ---- what is printed

-- the text is the lines of these commands, in order
abbrev pub AreLines : List Dead → List ℕ → Type 0
AreLines [] text = text ≡ []
AreLines (d ∷ ds) text = (line : List ℕ) × (rest : List ℕ) × IsLineOf d line × AreLines ds rest × (text ≡ line ++ 10 ∷ rest)

-- the lines were written; after a write fault fewer bytes than that, and otherwise nothing
abbrev pub PrintsLines : Status → List Dead → Option (List ℕ) → Option (List ℕ) → Type 0
PrintsLines status.Done dead before after = (text : List ℕ) × AreLines dead text × Appends before after text
PrintsLines status.WriteFault dead before after = (text : List ℕ) × AreLines dead text × AppendsLess text before after
PrintsLines _ dead before after = Keeps before after

-- the payload of the discarded command was written, if there is one; otherwise the status names the receipt
abbrev pub PrintsPayload : Status → ℕ → Option Dead → Option (List ℕ) → Option (List ℕ) → Type 0
PrintsPayload status.Done receipt None before after = ⊥
PrintsPayload status.Done receipt (Some d) before after = Appends before after d.command.payload
PrintsPayload status.WriteFault receipt None before after = ⊥
PrintsPayload status.WriteFault receipt (Some d) before after = AppendsLess d.command.payload before after
PrintsPayload (status.NoSuch other) receipt None before after = (other ≡ receipt) × Keeps before after
PrintsPayload (status.NoSuch other) receipt (Some d) before after = ⊥
PrintsPayload _ receipt dead before after = Keeps before after

-- ---- commands that write only what an opening writes

-- the ends of the printing commands, once a core is opened
abbrev pub IsPrintEnd : Status → Type 0
IsPrintEnd status.Done = Unit {0}
IsPrintEnd status.WriteFault = Unit {0}
IsPrintEnd status.Memory = Unit {0}
IsPrintEnd (status.NoSuch receipt) = Unit {0}
IsPrintEnd (status.QueryRefused why) = Unit {0}
IsPrintEnd _ = ⊥

-- the ends of a failed opening, except faults of the queue's disks and missing memory
abbrev pub IsUnopenedEnd : Status → Type 0
IsUnopenedEnd answer = (answer ≡ status.Spent) ⊎ (answer ≡ status.StoreFault) ⊎ ((file : FileName) × (at : ℕ) × (answer ≡ status.Damaged file at))

-- The files found decide whether a core is opened. The disks stand for what each of their images stood for. After an opening they
-- also stand for what the files stood for, as they were read. If damage, lack of room or a store's fault prevents the opening,
-- nothing was written.
pub record OnlyOpens {D : Type 0} (w : DiskSight D) (disks after : Disks D) (answer : Status) : Type 0 where
  pub files : TellsFiles w disks answer
  pub full : IsTrue w.tells → answer ≡ status.Spent → LackRoom w disks
  pub any_moment : ForEachImages w disks (OpensSo w disks after)
  pub images : KeepsAllImages w disks after
  pub leaves : ForEachImages w disks (λ ttls history. DisksStand w.may_leave ttls after (Restart ∷ history))
  pub left : IsUnopened w disks after answer ⊎ ForEachHistory w disks (λ ttls history. DisksStand w.may_leave ttls after (Restart ∷ history))
  pub untouched : IsUnopenedEnd answer → AreUntouched w.seen w.may_leave w.moment w.left_since disks after
  pub queue_counts : QueueDisksCount w disks after (answer ≡ status.QueueFault)
  pub store_counts : StoreDisksCount w disks after (answer ≡ status.StoreFault)

-- ---- discards

abbrev pub IsLinesEnd : Status → Type 0
IsLinesEnd status.Done = Unit {0}
IsLinesEnd status.WriteFault = Unit {0}
IsLinesEnd status.Memory = Unit {0}
IsLinesEnd _ = ⊥

-- The lines of the commands that were discarded, in the history that the files stand for, as they are read.
pub record IsDiscardsRun {D : Type 0} (w : DiskSight D) (out out_after : Stream) (disks after : Disks D) (answer : Status) : Type 0 where
  pub opens : OnlyOpens w disks after answer
  pub ends : IsLinesEnd answer ⊎ IsOpeningEnd answer
  pub prints : ForEachHistory w disks (λ ttls history. PrintsLines answer (dead_of history) out.bytes out_after.bytes)
  pub silent : answer ≢ status.Done → answer ≢ status.WriteFault → Keeps out.bytes out_after.bytes
  pub write_cause : Counts out.faults out_after.faults (answer ≡ status.WriteFault)

-- ---- payload R

abbrev pub IsPayloadEnd : Status → Type 0
IsPayloadEnd status.Done = Unit {0}
IsPayloadEnd status.WriteFault = Unit {0}
IsPayloadEnd (status.NoSuch receipt) = Unit {0}
IsPayloadEnd _ = ⊥

-- The payload of the command that was discarded under the receipt, in the history that the files stand for, as they are read.
pub record IsPayloadRun {D : Type 0} (w : DiskSight D) (receipt : ℕ) (out out_after : Stream) (disks after : Disks D) (answer : Status) : Type 0 where
  pub opens : OnlyOpens w disks after answer
  pub ends : IsPayloadEnd answer ⊎ IsOpeningEnd answer
  pub prints : ForEachHistory w disks (λ ttls history. PrintsPayload answer receipt (dead_at receipt (dead_of history)) out.bytes out_after.bytes)
  pub silent : answer ≢ status.Done → answer ≢ status.WriteFault → Keeps out.bytes out_after.bytes
  pub write_cause : Counts out.faults out_after.faults (answer ≡ status.WriteFault)

-- ---- sweep KINDS NOW

abbrev pub IsSweepEnd : Status → Type 0
IsSweepEnd status.Done = Unit {0}
IsSweepEnd status.StoreDown = Unit {0}
IsSweepEnd s = IsOpeningEnd s

-- the bytes stand for the history and a restart, or for those and the sweep
abbrev pub StandBeforeOrSwept : Ttls → Kinds → ℤ → List ℕ → List ℕ → List ℕ → List ℕ → History → Type 0
StandBeforeOrSwept ttls kinds m qa qb sa sb history =
    FilesStand ttls qa qb sa sb (Restart ∷ history) ⊎ FilesStand ttls qa qb sa sb (Sweep kinds m ∷ Restart ∷ history)

-- what the disks stand for at the end
abbrev pub SweepLeaves : {D : Type 0} → Status → DiskSight D → Kinds → ℤ → Disks D → Ttls → History → Type 0
SweepLeaves status.Done w kinds m after ttls history = DisksStand w.may_leave ttls after (Sweep kinds m ∷ Restart ∷ history)
SweepLeaves status.StoreDown w kinds m after ttls history =
    (qa qb sa sb : List ℕ) → w.may_leave after.queue_a qa → w.may_leave after.queue_b qb → w.may_leave after.store_a sa → w.may_leave after.store_b sb
    → StandBeforeOrSwept ttls kinds m qa qb sa sb history
SweepLeaves _ w kinds m after ttls history = DisksStand w.may_leave ttls after (Restart ∷ history)

-- After the opening the queue's disks are unchanged. Each image of the store's at every moment since, with each of the queue's,
-- stands for the history with or without the sweep.
pub record SweepsOn {D : Type 0} (w : DiskSight D) (kinds : Kinds) (m : ℤ) (opened after : Disks D) (ttls : Ttls) (history : History) : Type 0 where
  pub queue_a : after.queue_a ≡ opened.queue_a
  pub queue_b : after.queue_b ≡ opened.queue_b
  pub sweeping : (qa qb sa sb : List ℕ) → w.may_leave opened.queue_a qa → w.may_leave opened.queue_b qb
      → w.left_since after.store_a (w.moment opened.store_a) sa → w.left_since after.store_b (w.moment opened.store_b) sb
      → StandBeforeOrSwept ttls kinds m qa qb sa sb history

-- first a core is opened
pub record SweepsWithin {D : Type 0} (w : DiskSight D) (kinds : Kinds) (m : ℤ) (disks after : Disks D) (ttls : Ttls) (history : History) : Type 0 where
  pub opened : Disks D
  pub opening : OpensSo w disks opened ttls history
  pub sweeps : SweepsOn w kinds m opened after ttls history

-- No core was opened. Or one was, whatever the images were, and then the sweep was written for what the files stood for.
abbrev pub SweepsOver : {D : Type 0} → DiskSight D → Kinds → ℤ → Disks D → Disks D → Status → Type 0
SweepsOver {D} w kinds m disks after answer =
    IsUnopened w disks after answer ⊎ ((core : LogCore D) × OpensTo w disks core × ForEachHistory w disks (SweepsOn w kinds m (disks_in core) after))

-- a core was opened whose store has no room for the sweep's record
abbrev pub StoreIsFull : {D : Type 0} → DiskSight D → Kinds → ℤ → Disks D → Type 0
StoreIsFull {D} w kinds m disks = (core : LogCore D) × OpensTo w disks core × IsPast (size_of_pair (pair_of core.store)) (store_text (store.Swept kinds m))

-- a core was opened whose store has room for it
abbrev pub StoreHasRoom : {D : Type 0} → DiskSight D → Kinds → ℤ → Disks D → Type 0
StoreHasRoom {D} w kinds m disks = (core : LogCore D) × OpensTo w disks core × (IsPast (size_of_pair (pair_of core.store)) (store_text (store.Swept kinds m)) → ⊥)

-- One sweep is added to the history that each image of the disks stands for. After an opening it is added to the one that the
-- files stand for, as they are read. Damaged files are unchanged.
pub record IsSweepRun {D : Type 0} (w : DiskSight D) (kinds : Kinds) (m : ℤ) (disks after : Disks D) (answer : Status) : Type 0 where
  pub ends : IsSweepEnd answer
  pub files : TellsFiles w disks answer
  pub full : IsTrue w.tells → answer ≡ status.Spent → LackRoom w disks ⊎ StoreIsFull w kinds m disks
  -- so Spent comes wherever the store has no room, unless memory is missing
  pub roomy : answer ≢ status.Spent → answer ≢ status.Memory → IsUnopened w disks after answer ⊎ StoreHasRoom w kinds m disks
  pub any_moment : ForEachImages w disks (SweepsWithin w kinds m disks after)
  pub each_moment : SweepsOver w kinds m disks after answer
  pub leaves : ForEachImages w disks (SweepLeaves answer w kinds m after)
  pub left : IsUnopened w disks after answer ⊎ ForEachHistory w disks (SweepLeaves answer w kinds m after)
  pub untouched : (file : FileName) (at : ℕ) → answer ≡ status.Damaged file at → AreUntouched w.seen w.may_leave w.moment w.left_since disks after
  pub queue_counts : QueueDisksCount w disks after (answer ≡ status.QueueFault)
  pub store_cause : (answer ≡ status.StoreFault) ⊎ (answer ≡ status.StoreDown) → StoreRose w disks after
  pub store_twice : answer ≡ status.StoreDown → StoreRoseTwice w disks after
  pub store_calm : (answer ≡ status.Memory) ⊎ (answer ≡ status.Spent) → StoreDisksCount w disks after ⊥
