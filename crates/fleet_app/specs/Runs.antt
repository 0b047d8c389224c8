-- What each command does to its streams and its disks.
use Rattle.std.specs.Prelude.{◌≡◌, ◌≢◌, ◌↔◌, ◌⊎◌, ℕ, Bool, IsTrue, List, [], Option, Some, None, IfSome}
use Rattle.std.specs.Io.KnownBytes.{Appends, Keeps, IsAtEnd}
use Rattle.busy_commands.specs.fleet_ports.declared.disk.Disk as disk
use Rattle.busy_commands.specs.fleet_ports.Counts.{Counts, Rose}
use Rattle.busy_commands.specs.fleet_ports.declared.disk.Disks.{Disks}
use Rattle.busy_commands.specs.fleet_rows.declared.settings.Ttls.{Ttls}
use Rattle.busy_commands.specs.made_spec.Made.{made_text}
use Rattle.core_layout.specs.core_spec.Files.{FilesStand}
use Rattle.busy_commands.specs.core_layout.Layout.{EachImage, InOrder, AreUnlaid, IsUnlaidOrEmpty, IsAllLaid, StoreIsLaid, AreOpen, QueueUntouched, AllUntouched, InTurn}
use Rattle.busy_commands.specs.calm_commands.declared.status.Status.{Status}
use Rattle.busy_commands.specs.calm_commands.declared.status.Status.TheVariants as status
use Rattle.busy_commands.specs.calm_commands.Told.{Stream, AppendsFront, AppendsLess}
use Rattle.busy_commands.specs.program_words.declared.request.Request.{Request}
use Rattle.busy_commands.specs.program_words.declared.request.Request.TheVariants as request
use Rattle.busy_commands.specs.program_words.Words.{IsRequest, AsksQuery, MayWait}
use Rattle.busy_commands.specs.calm_commands.Openings.{DiskSight, QueueDisksCount, StoreDisksCount}
use Rattle.busy_commands.specs.calm_commands.Calm.{IsSweepRun, IsDiscardsRun, IsPayloadRun}
use Rattle.busy_commands.specs.calm_commands.Compacting.{IsCompactRun}
use Rattle.busy_commands.specs.calm_commands.Rows.{PatternSight, IsQueryRun}
use Rattle.busy_commands.specs.Serving.{FrontSight, front_and_patterns}
use Rattle.busy_commands.specs.Busy.{IsBusyRun}
use Rattle.fleet_app.specs.Words.{IsCalm, IsCalmCommand}
use Rattle.fleet_app.specs.Show.{IsSpool, FaultsAt, Tells, Prints, PrintsFront}

-- ---- show

abbrev pub IsShowEnd : Status → Type 0
IsShowEnd status.Done = Unit {0}
IsShowEnd (status.SpoolBad at) = Unit {0}
IsShowEnd status.ReadFault = Unit {0}
IsShowEnd status.WriteFault = Unit {0}
IsShowEnd status.Memory = Unit {0}
IsShowEnd _ = ⊥

-- If the bytes are a spool, the rows that one thread over its items leads to are printed.
pub record IsShowRun (spool spool_after out out_after : Stream) (answer : Status) : Type 0 where
  pub ends : IsShowEnd answer
  -- if the bytes are no spool, the answer is the offset of the first item that isn't whole
  pub bad : (at : ℕ) → answer ≡ status.SpoolBad at → IfSome spool.bytes (FaultsAt at)
  pub good : answer ≡ status.Done → IfSome spool.bytes IsSpool
  -- a fault is answered only if the stream's fault count rose, or stands at 2^64 - 1
  pub read_cause : Counts spool.faults spool_after.faults (answer ≡ status.ReadFault)
  pub write_cause : Counts out.faults out_after.faults (answer ≡ status.WriteFault)
  -- nothing is written before the spool was read to its end
  pub read_to_the_end : answer ≡ status.Done → IsAtEnd spool_after.bytes
  pub read_before_writing : answer ≡ status.WriteFault → IsAtEnd spool_after.bytes
  pub prints : answer ≡ status.Done → IfSome spool.bytes (Prints out.bytes out_after.bytes)
  pub prints_part : answer ≡ status.WriteFault → IfSome spool.bytes (PrintsFront out.bytes out_after.bytes)
  pub silent : answer ≢ status.Done → answer ≢ status.WriteFault → Keeps out.bytes out_after.bytes
  -- without a fault of a stream, a spool is printed and other bytes are answered as bad, unless there is no memory
  pub complete : Tells spool.bytes IsSpool → (¬ Rose spool.faults spool_after.faults) → (¬ Rose out.faults out_after.faults)
      → (answer ≡ status.Done) ⊎ (answer ≡ status.Memory)
  pub complete_bad : (at : ℕ) → Tells spool.bytes (FaultsAt at) → (¬ Rose spool.faults spool_after.faults)
      → (answer ≡ status.SpoolBad at) ⊎ (answer ≡ status.Memory)

-- ---- init

abbrev pub IsInitEnd : Status → Type 0
IsInitEnd status.Done = Unit {0}
IsInitEnd status.QueueFault = Unit {0}
IsInitEnd status.Memory = Unit {0}
IsInitEnd status.AlreadyLaid = Unit {0}
IsInitEnd status.StoreFault = Unit {0}
IsInitEnd _ = ⊥

-- What `init` with these lifetimes does to the disks, by its end.
pub record IsInitRun {D : Type 0} (is_told : Bool) (seen : D → List ℕ) (may_leave : D → List ℕ → Type 0) (moment : D → ℕ) (left_since : D → ℕ → List ℕ → Type 0) (ttls : Ttls) (disks disks_after : Disks D) (answer : Status) : Type 0 where
  pub ends : IsInitEnd answer
  -- the files stand for the empty history, in the first file of each log
  pub stands : answer ≡ status.Done → EachImage may_leave disks_after (FilesStand ttls [])
  pub laid : answer ≡ status.Done → EachImage may_leave disks_after (IsAllLaid ttls)
  -- if no file of the queue was open: at each moment none is, or the files stand for the empty history
  pub any_moment : AreUnlaid may_leave disks → InOrder may_leave moment left_since disks disks_after (IsUnlaidOrEmpty ttls)
  pub in_turn : InTurn seen may_leave moment left_since ttls disks disks_after
  pub already : IsTrue is_told → answer ≡ status.AlreadyLaid → AreOpen seen disks
  pub laid_before : IsTrue is_told → AreOpen seen disks
      → (answer ≡ status.AlreadyLaid) ⊎ (answer ≡ status.QueueFault) ⊎ (answer ≡ status.StoreFault)
  -- what each refusal leaves
  pub untouched : (answer ≡ status.AlreadyLaid) ⊎ (answer ≡ status.Memory) → AllUntouched seen may_leave moment left_since disks disks_after
  pub store_fault : answer ≡ status.StoreFault → QueueUntouched seen may_leave moment left_since disks disks_after
  pub queue_fault : answer ≡ status.QueueFault → AllUntouched seen may_leave moment left_since disks disks_after ⊎ StoreIsLaid may_leave ttls disks_after

-- the same, with the ghosts of the trait as one value
abbrev pub InitRun : {D : Type 0} → disk.Ghosts D → Ttls → Disks D → Disks D → Status → Type 0
InitRun d = IsInitRun d.is_told d.seen d.may_leave d.moment d.left_since

-- ---- make

abbrev pub IsMakeEnd : Status → Type 0
IsMakeEnd status.Done = Unit {0}
IsMakeEnd status.WriteFault = Unit {0}
IsMakeEnd status.Memory = Unit {0}
IsMakeEnd _ = ⊥

-- The text of this number of items that the seed gives is printed.
pub record IsMakeRun (seed count : ℕ) (out out_after : Stream) (answer : Status) : Type 0 where
  pub ends : IsMakeEnd answer
  pub prints : answer ≡ status.Done → Appends out.bytes out_after.bytes (made_text seed count)
  pub prints_part : answer ≡ status.WriteFault → AppendsLess (made_text seed count) out.bytes out_after.bytes
  -- without memory, still only a prefix of that text was printed
  pub prints_front : answer ≡ status.Memory → AppendsFront (made_text seed count) out.bytes out_after.bytes
  pub write_cause : Counts out.faults out_after.faults (answer ≡ status.WriteFault)

-- ---- all commands that don't wait

-- the streams and the pattern reader, at one moment
pub record Outside : Type 0 where
  pub spool : Stream
  pub out : Stream
  pub patterns : PatternSight

abbrev pub outside : Stream → Stream → PatternSight → Outside
outside spool out patterns = record { spool = spool; out = out; patterns = patterns }

-- What a command does to the streams, the patterns and its disks.
abbrev pub CalmRun : {D : Type 0} → DiskSight D → List (List ℕ) → Request → Outside → Outside → Disks D → Disks D → Status → Type 0
CalmRun w words request.Show before now disks after answer = IsShowRun before.spool now.spool before.out now.out answer × (now.patterns ≡ before.patterns) × (after ≡ disks)
CalmRun w words (request.Init ttls) before now disks after answer =
    IsInitRun w.tells w.seen w.may_leave w.moment w.left_since ttls disks after answer
    × QueueDisksCount w disks after (answer ≡ status.QueueFault) × StoreDisksCount w disks after (answer ≡ status.StoreFault) × (now ≡ before)
CalmRun w words (request.Run workers stamp serving) before now disks after answer = ⊥
CalmRun w words (request.Serve serving stamp) before now disks after answer = ⊥
CalmRun w words (request.Sweep kinds stamp) before now disks after answer = IsSweepRun w kinds stamp disks after answer × (now ≡ before)
CalmRun w words request.Compact before now disks after answer = IsCompactRun w disks after answer × (now ≡ before)
CalmRun w words request.Discards before now disks after answer =
    IsDiscardsRun w before.out now.out disks after answer × (now.spool ≡ before.spool) × (now.patterns ≡ before.patterns)
CalmRun w words (request.Payload receipt) before now disks after answer =
    IsPayloadRun w receipt before.out now.out disks after answer × (now.spool ≡ before.spool) × (now.patterns ≡ before.patterns)
CalmRun w words request.Query before now disks after answer =
    (text : List ℕ) → AsksQuery words text → IsQueryRun w text before.patterns now.patterns before.out now.out disks after answer × (now.spool ≡ before.spool)
CalmRun w words (request.Make seed count) before now disks after answer =
    IsMakeRun seed count before.out now.out answer × (now.spool ≡ before.spool) × (now.patterns ≡ before.patterns) × (after ≡ disks)

-- There was no memory to read the arguments, and nothing is changed.
abbrev pub IsUnread : {D : Type 0} → Outside → Outside → Disks D → Disks D → Status → Type 0
IsUnread before now disks after answer = (answer ≡ status.Memory) × (now ≡ before) × (after ≡ disks)

-- What `run_calm` ensures of its status, of the streams and patterns, and of the disks, for these arguments.
pub record IsCalmRun {D : Type 0} (w : DiskSight D) (words : List (List ℕ)) (before now : Outside) (disks after : Disks D) (answer : Status) : Type 0 where
  -- Usage comes only if the arguments spell none of these commands. Then only Memory may come in its place, and nothing is changed.
  pub usage : answer ≡ status.Usage → ¬ IsCalmCommand words
  pub refused : ¬ IsCalmCommand words → (answer ≡ status.Usage) ⊎ (answer ≡ status.Memory)
  pub stays : ¬ IsCalmCommand words → (now ≡ before) × (after ≡ disks)
  -- a command that they spell is run, unless there is no memory to read them
  pub run : (asked : Request) → IsRequest words asked → IsCalm asked
      → CalmRun w words asked before now disks after answer ⊎ IsUnread before now disks after answer

-- ---- all commands

-- The first argument names a command that may wait, or the command doesn't wait and leaves the listener unchanged.
pub record IsAnyRun {D : Type 0} (w : DiskSight D) (words : List (List ℕ)) (front front_after : FrontSight) (before now : Outside) (disks after : Disks D) (answer : Status) : Type 0 where
  pub busy : MayWait words → IsBusyRun w words before.spool now.spool before.out now.out (front_and_patterns front before.patterns) (front_and_patterns front_after now.patterns) disks after answer
  pub calm : ¬ MayWait words → IsCalmRun w words before now disks after answer × (front_after ≡ front)

-- such a run leaves these disks
abbrev pub HasRun : {D : Type 0} → DiskSight D → List (List ℕ) → FrontSight → FrontSight → Outside → Outside → Disks D → Option (Disks D) → Status → Type 0
HasRun w words front front_after before now disks None answer = ⊥
HasRun w words front front_after before now disks (Some after) answer = IsAnyRun w words front front_after before now disks after answer
