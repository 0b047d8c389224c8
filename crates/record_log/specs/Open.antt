-- What the answers of an opening say about a file.
use Rattle.std.specs.Prelude.{◌≡◌, ℕ, ◌+◌, List, [], length, drop, Option, Some, None, Result, Ok, Err}
use Rattle.log_spec.specs.Image.{Image, closed, damaged, standing}
use Rattle.log_spec.specs.ImageOf.{ends, breaks, behind, found}
use Rattle.record_log.specs.declared.log.Log.{Log}
use Rattle.record_log.specs.declared.open.Opened.{Opened}
use Rattle.record_log.specs.declared.open.OpenFault.{OpenFault}
use Rattle.record_log.specs.declared.open.OpenFault.TheVariants.{Closed, Damaged, DiskFault, Memory}

-- Ok, Closed and Damaged determine the image; a disk fault and lack of memory say nothing about it.
abbrev pub MatchOpened : Result Opened OpenFault → Image → Type 0
MatchOpened (Ok it) image = image ≡ standing it.generation it.frames it.gate
MatchOpened (Err Closed) image = image ≡ closed
MatchOpened (Err (Damaged at)) image = image ≡ damaged at
MatchOpened (Err DiskFault) image = Unit {0}
MatchOpened (Err Memory) image = Unit {0}

abbrev pub IsDiskFault : {T : Type 0} → Result T OpenFault → Type 0
IsDiskFault (Ok it) = ⊥
IsDiskFault (Err Closed) = ⊥
IsDiskFault (Err (Damaged at)) = ⊥
IsDiskFault (Err DiskFault) = Unit {0}
IsDiskFault (Err Memory) = ⊥

-- One frame was read at an offset, or its gate is closed, or the file is damaged there.
abbrev pub MatchFrame : Result (Option (List ℕ)) OpenFault → ℕ → List ℕ → Type 0
MatchFrame (Ok None) at file = found at (drop at file) ≡ ends [] at
MatchFrame (Ok (Some frame)) at file = found at (drop at file) ≡ behind frame (found (at + 5 + length frame) (drop (at + 5 + length frame) file))
MatchFrame (Err Closed) at file = ⊥
MatchFrame (Err (Damaged place)) at file = found at (drop at file) ≡ breaks place
MatchFrame (Err DiskFault) at file = Unit {0}
MatchFrame (Err Memory) at file = Unit {0}

-- The same for a log and its frames; an error hands the disk back.
abbrev pub MatchLog : {D : Type 0} → Result (Log D × List (List ℕ)) (OpenFault × D) → Image → Type 0
MatchLog (Ok it) image = image ≡ standing it.0.generation it.1 it.0.gate.place
MatchLog (Err it) image = MatchOpened (Err it.0) image
