-- What a run over a spool does to the history that the files stand for, as they are read, and to its streams.
use Rattle.std.specs.Prelude.{◌≡◌, ◌⊎◌, ℕ, ◌+◌, ◌-◌, ◌^◌, ◌≤◌, min, ℤ, IsTrue, Bool, true, false, List, [], ◌∷◌, ◌++◌, Option, Some, Ok, IfSome, is_some, if◌then◌else◌}
use Rattle.std.specs.Io.KnownBytes.{Appends, Keeps, IsAtEnd}
use Rattle.spool_text.specs.fleet_ports.Counts.{Counts, Rose, RoseBy}
use Rattle.spool_text.specs.fleet_ports.declared.disk.Disks.{Disks}
use Rattle.fleet_hub.specs.fleet_rows.declared.change.Change.{Change}
use Rattle.fleet_hub.specs.fleet_rows.declared.command.Command.{Command}
use Rattle.fleet_hub.specs.fleet_rows.declared.row.Entity.{Entity}
use Rattle.fleet_hub.specs.fleet_rows.declared.settings.Ttls.{Ttls}
use Rattle.fleet_hub.specs.history_spec.Thread as thread
use Rattle.fleet_hub.specs.history_spec.Thread.{Item}
use Rattle.fleet_hub.specs.table_spec.Rows.{rows}
use Rattle.program_words.specs.spool_spec.Spool.{End, whole, bad_at, SpoolOf}
use Rattle.fleet_hub.specs.log_pair.Pair.{disk_a, disk_b, size_of_pair, is_down_of, IsGood}
use Rattle.fleet_hub.specs.store_records.Reading.{store_at}
use Rattle.fleet_hub.specs.core_spec.declared.event.Event.TheVariants.{Fail, Restart}
use Rattle.fleet_hub.specs.core_spec.History.{History, command, answer, trace_of}
use Rattle.fleet_hub.specs.core_spec.Legal.{IsAfterFails, IsLegal}
use Rattle.fleet_hub.specs.core_spec.Pending.{pending_of}
use Rattle.fleet_hub.specs.core_spec.Thread.{one_thread}
use Rattle.fleet_hub.specs.core_laws.Outcomes.{endings, outcome, has_ended, applied, superseded_by}
use Rattle.fleet_hub.specs.core_laws.Threads.{items_of, dropped}
use Rattle.fleet_hub.specs.fleet_keeper.Keeper.{pair_of, faults_of, opened_of, IsWithin}
use Rattle.fleet_hub.specs.fleet_keeper.declared.log_keeper.LogKeeper.{LogKeeper}
use Rattle.fleet_hub.specs.fleet_keeper.Pairs.{pair_records, PairImages, PairSince}
use Rattle.fleet_hub.specs.core_state.Seen.{IsSound}
use Rattle.fleet_hub.specs.core_state.StandsFor.{AreOfOneRecord}
use Rattle.fleet_hub.specs.core_state.Tallies.{tally_of}
use Rattle.fleet_hub.specs.core_opening.Opened.{LogCore, FilesStand, DisksStand, disks_in}
use Rattle.fleet_hub.specs.core_course.Sight.{Sight, sight, is_down}
use Rattle.fleet_hub.specs.core_course.Courses.{Course, NoMomentIsLeftOut, Passed}
use Rattle.fleet_hub.specs.core_drain.Ends as drains
use Rattle.fleet_hub.specs.core_drain.Ends.{LacksDone, RoseInLast, SomethingWaits}
use Rattle.fleet_hub.specs.core_submits.Submits as submits
use Rattle.spool_run.specs.Rules.{NothingIsDue, HasNoRestart, KeepsRules}
use Rattle.spool_run.specs.Fronts.{AreInFront, ComesNext, WereRead}
use Rattle.spool_run.specs.Intake.{MayTake, FailedLast, WorkIsLeft, SweepKeptOut, SubmitIsSpent, IsSpent}
use Rattle.calm_commands.specs.declared.status.Status.{Status}
use Rattle.calm_commands.specs.declared.status.Status.TheVariants as status
use Rattle.calm_commands.specs.Told.{Stream, AppendsLess}
use Rattle.calm_commands.specs.Openings.{DiskSight, ForEachHistory, OpensTo, IsUnopened, TellsFiles, StoreRose, StoreRoseTwice}
use Rattle.spool_run.specs.Summary.{summary_text}

-- ---- the history

-- After the history found and the restart, these events took these items, in order. Each command is applied with the moment at
-- which it was received. Pending commands are settled before a sweep and when a batch limit is reached. If `due`, they are
-- settled at the end too.
pub record Took (ttls : Ttls) (due : Bool) (items : List Item) (start more : History) : Type 0 where
  pub legal : IsLegal ttls (more ++ Restart ∷ start)
  pub items_are : items_of more ≡ items
  pub no_restart : HasNoRestart more
  pub rules : KeepsRules due (Restart ∷ start) more

-- Each command that was ever submitted has also ended exactly once: it was applied, superseded or discarded. The rows of each
-- entity are those of one thread over the pending commands and the items, without the discarded ones.
pub record TookAndEnded (ttls : Ttls) (items : List Item) (start more : History) : Type 0 where
  pub took : Took ttls true items start more
  pub nothing_waits : pending_of (more ++ Restart ∷ start) ≡ []
  pub ended_once : (r : ℕ) → endings r (more ++ Restart ∷ start) ≡ (if is_some (command r (more ++ Restart ∷ start)) then 1 else 0)
  pub rows_are : (entity : Entity) → rows entity ttls (trace_of (more ++ Restart ∷ start)) ≡ rows entity ttls (one_thread (Restart ∷ start) items (dropped more))

-- Each command that hadn't ended at the start and that decodes to a change is applied, or superseded by an applied one.
abbrev pub TakeEffect : History → History → Type 0
TakeEffect start more =
    (r : ℕ) (change : Change) → has_ended (outcome r start) ≡ false → answer r (more ++ Restart ∷ start) ≡ Some (Ok change)
    → (outcome r (more ++ Restart ∷ start) ≡ Some applied) ⊎ ((p : ℕ) × (outcome r (more ++ Restart ∷ start) ≡ Some (superseded_by p)))

-- ---- the disks

-- Each image of the disks stands for the history. If a log went down, an image may also include the events of the one record that
-- was being written.
pub record DisksLeft {D : Type 0} (w : DiskSight D) (ttls : Ttls) (down : Bool) (disks : Disks D) (history : History) : Type 0 where
  pub begun : History
  pub of_one : AreOfOneRecord begun
  pub each : (qa qb sa sb : List ℕ) → w.may_leave disks.queue_a qa → w.may_leave disks.queue_b qb → w.may_leave disks.store_a sa → w.may_leave disks.store_b sb
      → FilesStand ttls qa qb sa sb history ⊎ ((down ≡ true) × FilesStand ttls qa qb sa sb (begun ++ history))

-- the number of counted failures of the store
abbrev pub fail_count : History → ℕ
fail_count [] = 0
fail_count (Fail r before after ∷ earlier) = 1 + fail_count earlier
fail_count (_ ∷ earlier) = fail_count earlier

-- the fault counts of the store's two disks rose by at least n together, or one stands at 2^64 - 1
abbrev pub StoreRoseBy : {D : Type 0} → ℕ → DiskSight D → Disks D → Disks D → Type 0
StoreRoseBy n w disks after =
    (w.faults disks.store_a + w.faults disks.store_b + min n (2 ^ 64 - 1) ≤ w.faults after.store_a + w.faults after.store_b) ⊎ (2 ^ 64 - 1 ≤ w.faults after.store_a) ⊎ (2 ^ 64 - 1 ≤ w.faults after.store_b)

-- and by n more than the failures among these events account for
pub record StoreRoseBehind {D : Type 0} (n : ℕ) (w : DiskSight D) (disks after : Disks D) (more : History) : Type 0 where
  pub counted : ℕ
  pub fails : ForEachHistory w disks (λ ttls start. IsAfterFails counted (more ++ Restart ∷ start))
  pub rose : StoreRoseBy (counted + n) w disks after

-- what contracts see of the disks, and of the keeper over the store's two
abbrev pub log_sight : {D : Type 0} → DiskSight D → Sight D (LogKeeper D)
log_sight w =
    sight w.tells w.seen w.may_leave w.moment w.left_since w.faults w.tells (λ k. pair_records store_at w.seen (pair_of k)) (λ k. PairImages store_at w.may_leave (pair_of k))
    (λ k. (w.moment (disk_a (pair_of k)), w.moment (disk_b (pair_of k)))) (λ k. PairSince store_at w.left_since (pair_of k))
    (λ k. is_down_of (pair_of k)) (λ k. size_of_pair (pair_of k)) (λ k. faults_of k) (λ k. opened_of k) (λ k. IsWithin w.faults k)

-- a log that isn't down can be called: each image of its disks has its frames, in a file of that size
abbrev pub IsSoundCore : {D : Type 0} → DiskSight D → LogCore D → Type 0
IsSoundCore w core = IsSound w.seen w.may_leave (λ k. is_down_of (pair_of k)) (λ k. IsGood w.seen w.may_leave (pair_of k)) core

-- A core was opened over the disks, which stands for each history that the files stand for, as they are read. Then these events
-- were added, call by call.
--
-- At each moment each image of the disks stands for the history with a part of the events. It may also include the record being
-- written, which is of work on a command or of the spool's next item. After the records that were found, the logs have those of
-- the events.
--
-- The disks are those of the last core, which is sound. If it is up, the sizes of its logs are those of the files, and no log
-- outgrew 2^62 bytes (`passed`). So where a record doesn't fit, it isn't written. The fault counts of the store's disks rose by at
-- least one for each counted failure. So if they didn't rise, there is none.
pub record RanOn {D : Type 0} (w : DiskSight D) (now : ℤ) (spool : Option (List ℕ)) (down : Bool) (disks after : Disks D) (more : History) : Type 0 where
  pub opened : LogCore D
  pub opens : OpensTo w disks opened
  pub ended : LogCore D
  pub passed : Passed (log_sight w) more opened ended
  pub course : Course (log_sight w) (MayTake now spool opened) opened ended
  -- each moment of a file, from the opened core's to the last one's, lies within one of these calls
  pub whole : NoMomentIsLeftOut (log_sight w) opened course.stops ended
  pub sound : IsSoundCore w ended
  pub fails : ForEachHistory w disks (λ ttls start. StoreRoseBy (fail_count more) w disks after)
  pub no_fails : ForEachHistory w disks (λ ttls start. (¬ StoreRose w disks after) → fail_count more ≡ 0)
  pub down_is : is_down (log_sight w) ended ≡ down
  pub after_is : after ≡ disks_in ended

-- ---- how far a run got

-- The spool was read to this end. Its items came in, whatever the files stand for. For each history that they stand for, as they
-- are read, each command has ended. The summary was written by `Writes`.
pub record RanThrough {D : Type 0} (w : DiskSight D) (now : ℤ) (end : End) (spool : Option (List ℕ)) (disks after : Disks D) (Writes : List ℕ → Type 0) : Type 0 where
  pub items : List Item
  pub spool_is : IfSome spool (λ bytes. SpoolOf now bytes items end)
  pub more : History
  pub items_are : items_of more ≡ items
  pub no_restart : HasNoRestart more
  pub ran : RanOn w now spool false disks after more
  pub took : ForEachHistory w disks (λ ttls start. TookAndEnded ttls items start more)
  -- if no store disk counted a fault, what decodes takes effect
  pub take_effect : ForEachHistory w disks (λ ttls start. (¬ StoreRose w disks after) → TakeEffect start more)
  pub leaves : ForEachHistory w disks (λ ttls start. DisksStand w.may_leave ttls after (more ++ Restart ∷ start))
  pub summary : Writes (summary_text (tally_of more))

-- A prefix of the spool's items came in. `Then` holds of the added events, of the items, and of the cores at the start and at the
-- end.
pub record RanSome {D : Type 0} (w : DiskSight D) (now : ℤ) (due down : Bool) (spool : Option (List ℕ)) (disks after : Disks D) (Then : History → List Item → LogCore D → LogCore D → Type 0) : Type 0 where
  pub items : List Item
  pub spool_is : IfSome spool (AreInFront now items)
  pub more : History
  pub items_are : items_of more ≡ items
  pub no_restart : HasNoRestart more
  pub ran : RanOn w now spool down disks after more
  pub took : ForEachHistory w disks (λ ttls start. Took ttls due items start more)
  pub leaves : ForEachHistory w disks (λ ttls start. DisksLeft w ttls down after (more ++ Restart ∷ start))
  pub holds : Then more items ran.opened ran.ended

-- ---- the ends

-- no core was opened, and nothing came in
abbrev pub NotOpened : {D : Type 0} → DiskSight D → Disks D → Disks D → Status → Stream → Stream → Type 0
NotOpened w disks after answer spool spool_after = IsUnopened w disks after answer × (spool_after ≡ spool)

-- no batch limit is reached, and no drain is unfinished; and every item came in that was read whole
abbrev pub NoBatch : {D : Type 0} → ℤ → Option (List ℕ) → Option (List ℕ) → History → List Item → LogCore D → LogCore D → Type 0
NoBatch now spool spool_after more items old new = NothingIsDue more new.pending × WereRead now spool spool_after items

-- no Done lacks and the store is up, so only the queue's log can be down
abbrev pub OnlyQueueIsDown : {D : Type 0} → LogCore D → Type 0
OnlyQueueIsDown core = (core.undone ≡ false) × (is_down_of (pair_of core.store) ≡ false)

-- No batch limit is reached, and no drain is unfinished. A command comes next, for which there is a receipt and room. The last call
-- was its submit, which counted the fault.
abbrev pub CommandComes : {D : Type 0} → DiskSight D → ℤ → Option (List ℕ) → History → List Item → LogCore D → LogCore D → Type 0
CommandComes w now spool more items old new =
    NothingIsDue more new.pending × (c : Command) × ComesNext now spool items (thread.command c) × (submits.IsSpent c new → ⊥) × OnlyQueueIsDown new
    × FailedLast (log_sight w) (thread.command c) (λ before after. drains.QueueRose (log_sight w) before after) old new

-- a command comes next, for which there is no receipt or no room
abbrev pub CommandIsSpent : {D : Type 0} → ℤ → Option (List ℕ) → History → List Item → LogCore D → LogCore D → Type 0
CommandIsSpent now spool more items old new = NothingIsDue more new.pending × SubmitIsSpent now spool new items

-- A command is pending. If the core is up, the last call was one at which the queue counted a fault.
abbrev pub CommandWaits : {D : Type 0} → DiskSight D → History → List Item → LogCore D → LogCore D → Type 0
CommandWaits w more items old new =
    SomethingWaits (log_sight w) old new × (is_down (log_sight w) new ≡ false → RoseInLast (log_sight w) old new) × OnlyQueueIsDown new

-- the command that was applied last has no Done, and the store is up
abbrev pub DoneIsLacking : {D : Type 0} → DiskSight D → History → List Item → LogCore D → LogCore D → Type 0
DoneIsLacking w more items old new = LacksDone (log_sight w) old new × (is_down_of (pair_of new.store) ≡ false)

-- A command is pending or a sweep comes next, of which alone an image may have a record. The store is down, and failed twice after
-- all counted failures.
abbrev pub SomethingIsLeft : {D : Type 0} → DiskSight D → ℤ → Option (List ℕ) → Disks D → Disks D → History → List Item → LogCore D → LogCore D → Type 0
SomethingIsLeft w now spool disks after more items old new =
    StoreRoseBehind 2 w disks after more × (is_down_of (pair_of new.store) ≡ true) × WorkIsLeft (log_sight w) now spool old new items

-- A sweep comes next, for which there is room, and nothing is pending. The last call was this sweep, at which the store failed after
-- all counted failures.
abbrev pub SweepIsLeft : {D : Type 0} → DiskSight D → ℤ → Option (List ℕ) → Disks D → Disks D → History → List Item → LogCore D → LogCore D → Type 0
SweepIsLeft w now spool disks after more items old new = StoreRoseBehind 1 w disks after more × SweepKeptOut (log_sight w) now spool old new items

abbrev pub Anything : {D : Type 0} → History → List Item → LogCore D → LogCore D → Type 0
Anything more items old new = Unit {0}

-- the fault count of one of the queue's disks rose by two, or stands at 2^64 - 1
abbrev pub QueueRoseTwice : {D : Type 0} → DiskSight D → Disks D → Disks D → Type 0
QueueRoseTwice w disks after = RoseBy 2 (w.faults disks.queue_a) (w.faults after.queue_a) ⊎ RoseBy 2 (w.faults disks.queue_b) (w.faults after.queue_b)

-- What each end says of the spool, of the disks and of what was printed. At QueueFault the store's log is up, and at StoreDown it is
-- down. At QueueFault an image may include one record more, of any kind, only if the queue's log is down and failed twice.
abbrev pub RunEnds : {D : Type 0} → Status → DiskSight D → ℤ → Stream → Stream → Stream → Stream → Disks D → Disks D → Type 0
RunEnds status.Done w now spool spool_after out out_after disks after =
    RanThrough w now whole spool.bytes disks after (Appends out.bytes out_after.bytes) × IsAtEnd spool_after.bytes
RunEnds (status.SpoolBad at) w now spool spool_after out out_after disks after =
    RanThrough w now (bad_at at) spool.bytes disks after (Appends out.bytes out_after.bytes)
RunEnds status.WriteFault w now spool spool_after out out_after disks after =
    (end : End) × RanThrough w now end spool.bytes disks after (λ text. AppendsLess text out.bytes out_after.bytes) × (end ≡ whole → IsAtEnd spool_after.bytes)
RunEnds status.ReadFault w now spool spool_after out out_after disks after = RanSome w now false false spool.bytes disks after (NoBatch now spool.bytes spool_after.bytes)
RunEnds status.QueueFault w now spool spool_after out out_after disks after =
    NotOpened w disks after status.QueueFault spool spool_after
    ⊎ ((down : Bool) × (down ≡ true → QueueRoseTwice w disks after) × RanSome w now false down spool.bytes disks after (CommandComes w now spool.bytes))
    ⊎ RanSome w now true true spool.bytes disks after (DoneIsLacking w)
    ⊎ ((down : Bool) × (down ≡ true → QueueRoseTwice w disks after) × RanSome w now true down spool.bytes disks after (CommandWaits w))
RunEnds status.StoreDown w now spool spool_after out out_after disks after = RanSome w now true true spool.bytes disks after (SomethingIsLeft w now spool.bytes disks after)
RunEnds status.StoreFault w now spool spool_after out out_after disks after =
    NotOpened w disks after status.StoreFault spool spool_after
    ⊎ RanSome w now true false spool.bytes disks after (SweepIsLeft w now spool.bytes disks after)
RunEnds status.Spent w now spool spool_after out out_after disks after =
    NotOpened w disks after status.Spent spool spool_after
    ⊎ RanSome w now false false spool.bytes disks after (CommandIsSpent now spool.bytes)
    ⊎ RanSome w now true false spool.bytes disks after (λ more items old new. IsSpent (log_sight w) now spool.bytes old new items)
RunEnds status.Memory w now spool spool_after out out_after disks after =
    NotOpened w disks after status.Memory spool spool_after ⊎ RanSome w now true false spool.bytes disks after Anything
RunEnds (status.Damaged file at) w now spool spool_after out out_after disks after = NotOpened w disks after (status.Damaged file at) spool spool_after
RunEnds _ w now spool spool_after out out_after disks after = ⊥

-- nothing is printed at this end
abbrev pub IsQuiet : Status → Type 0
IsQuiet status.Done = ⊥
IsQuiet (status.SpoolBad at) = ⊥
IsQuiet status.WriteFault = ⊥
IsQuiet _ = Unit {0}

-- the fault count of one of the queue's disks rose, or stands at 2^64 - 1
abbrev pub QueueRose : {D : Type 0} → DiskSight D → Disks D → Disks D → Type 0
QueueRose w disks after = Rose (w.faults disks.queue_a) (w.faults after.queue_a) ⊎ Rose (w.faults disks.queue_b) (w.faults after.queue_b)

-- neither of these counts fell
abbrev pub QueueIsLater : {D : Type 0} → DiskSight D → Disks D → Disks D → Type 0
QueueIsLater w disks after = (w.faults disks.queue_a ≤ w.faults after.queue_a) × (w.faults disks.queue_b ≤ w.faults after.queue_b)

-- What the end says, and the cause of each fault. A count may rise at another end too, if other workers made up for the fault.
pub record HasEnded {D : Type 0} (w : DiskSight D) (now : ℤ) (spool spool_after out out_after : Stream) (disks after : Disks D) (answer : Status) : Type 0 where
  pub ends : RunEnds answer w now spool spool_after out out_after disks after
  pub files : TellsFiles w disks answer
  pub silent : IsQuiet answer → Keeps out.bytes out_after.bytes
  pub read_cause : Counts spool.faults spool_after.faults (answer ≡ status.ReadFault)
  pub write_cause : Counts out.faults out_after.faults (answer ≡ status.WriteFault)
  pub queue_later : QueueIsLater w disks after
  pub queue_cause : answer ≡ status.QueueFault → QueueRose w disks after
  pub store_cause : (answer ≡ status.StoreFault) ⊎ (answer ≡ status.StoreDown) → StoreRose w disks after
  pub store_twice : answer ≡ status.StoreDown → StoreRoseTwice w disks after

-- The spool has this end, the files stand for a history, and no fault count rose or stands at 2^64 - 1.
pub record NothingFails {D : Type 0} (w : DiskSight D) (now : ℤ) (end : End) (spool spool_after out out_after : Stream) (disks after : Disks D) : Type 0 where
  pub tells : IsTrue w.tells
  pub ttls : Ttls
  pub start : History
  pub files : FilesStand ttls (w.seen disks.queue_a) (w.seen disks.queue_b) (w.seen disks.store_a) (w.seen disks.store_b) start
  pub bytes : List ℕ
  pub bytes_are : spool.bytes ≡ Some bytes
  pub items : List Item
  pub spool_is : SpoolOf now bytes items end
  pub no_read : ¬ Rose spool.faults spool_after.faults
  pub no_write : ¬ Rose out.faults out_after.faults
  pub no_queue : ¬ QueueRose w disks after
  pub no_store : ¬ StoreRose w disks after

-- the ends without a fault: no room, no memory, or Done
abbrev pub IsCalmEnd : Status → Type 0
IsCalmEnd status.Done = Unit {0}
IsCalmEnd status.Spent = Unit {0}
IsCalmEnd status.Memory = Unit {0}
IsCalmEnd _ = ⊥

-- the same for a spool that has no whole item at this offset
abbrev pub IsBadEnd : ℕ → Status → Type 0
IsBadEnd at (status.SpoolBad place) = place ≡ at
IsBadEnd at status.Spent = Unit {0}
IsBadEnd at status.Memory = Unit {0}
IsBadEnd at _ = ⊥

-- A run over a spool.
pub record IsRun {D : Type 0} (w : DiskSight D) (now : ℤ) (spool spool_after out out_after : Stream) (disks after : Disks D) (answer : Status) : Type 0 where
  pub ended : HasEnded w now spool spool_after out out_after disks after answer
  pub complete : NothingFails w now whole spool spool_after out out_after disks after → IsCalmEnd answer
  pub complete_bad : (at : ℕ) → NothingFails w now (bad_at at) spool spool_after out out_after disks after → IsBadEnd at answer

-- A run over a whole spool, whose summary was printed, left this core open.
pub record LeavesOpen {D : Type 0} (w : DiskSight D) (now : ℤ) (spool out out_after : Stream) (disks : Disks D) (left : LogCore D) : Type 0 where
  pub ran : RanThrough w now whole spool.bytes disks (disks_in left) (Appends out.bytes out_after.bytes)
  pub left_is : left ≡ ran.ran.ended

-- A run over a core that was opened over the disks, including the summary.
pub record RunsCore {D : Type 0} (w : DiskSight D) (now : ℤ) (spool spool_after out out_after : Stream) (disks : Disks D) (left : LogCore D) (answer : Status) : Type 0 where
  pub run : IsRun w now spool spool_after out out_after disks (disks_in left) answer
  pub leaves : answer ≡ status.Done → LeavesOpen w now spool out out_after disks left
