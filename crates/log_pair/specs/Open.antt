-- What the answers of an opening say about two files.
use Rattle.std.specs.Prelude.{◌≡◌, ◌⊎◌, ℕ, ◌≤◌, false, List, Result, Ok, Err}
use Rattle.record_log.specs.fleet_ports.Counts.{Rose}
use Rattle.log_spec.specs.Image.{Image, closed, damaged, standing}
use Rattle.log_spec.specs.PairImage.{PairImage, broken, counts}
use Rattle.log_spec.specs.declared.side.Side.{Side}
use Rattle.record_log.specs.Log.{disk_of, generation_of, gate_of, down_of, AllStand, StandsFor, log_frames}
use Rattle.log_pair.specs.declared.pair.Pair.{Pair}
use Rattle.log_pair.specs.declared.opened.PairFault.{PairFault}
use Rattle.log_pair.specs.declared.opened.PairFault.TheVariants.{Damaged, DiskFault, Memory}
use Rattle.log_pair.specs.declared.opened.ReadFile.{ReadFile}
use Rattle.log_pair.specs.declared.opened.ReadFile.TheVariants.{Open, Closed}
use Rattle.log_pair.specs.Pair.{disk_a, disk_b}

abbrev pub disk_in : {D : Type 0} → ReadFile D → D
disk_in (Open log frames) = disk_of log
disk_in (Closed disk) = disk

-- a file that was read has this image
abbrev pub TellsFile : {D : Type 0} → ReadFile D → Image → Type 0
TellsFile (Open log frames) image = image ≡ standing (generation_of log) frames (gate_of log)
TellsFile (Closed disk) image = image ≡ closed

-- each image of its disk stands for what was read
abbrev pub FileStands : {D : Type 0} → (D → List ℕ) → (D → List ℕ → Type 0) → ReadFile D → Type 0
FileStands seen may_leave (Open log frames) = StandsFor may_leave log frames × StandsFor may_leave log (log_frames seen log) × (down_of log ≡ false)
FileStands seen may_leave (Closed disk) = AllStand (may_leave disk) closed

abbrev pub MatchFile : {D : Type 0} → Result (ReadFile D) (PairFault × D) → Side → Image → Type 0
MatchFile (Ok file) side image = TellsFile file image
MatchFile (Err (Damaged file at, disk)) side image = (file ≡ side) × (image ≡ damaged at)
MatchFile (Err (DiskFault, disk)) side image = Unit {0}
MatchFile (Err (Memory, disk)) side image = Unit {0}

abbrev pub IsFileFault : {D : Type 0} → Result (ReadFile D) (PairFault × D) → Type 0
IsFileFault (Ok file) = ⊥
IsFileFault (Err (Damaged file at, disk)) = ⊥
IsFileFault (Err (DiskFault, disk)) = Unit {0}
IsFileFault (Err (Memory, disk)) = ⊥

abbrev pub disk_after : {D : Type 0} → Result (ReadFile D) (PairFault × D) → D
disk_after (Ok file) = disk_in file
disk_after (Err e) = e.1

-- Ok and Damaged determine what the pair stands for; a disk fault and lack of memory say nothing about it.
abbrev pub MatchPair : {D : Type 0} → Result (Pair D × List (List ℕ)) (PairFault × D × D) → PairImage → Type 0
MatchPair (Ok it) image = image ≡ counts it.0.side (generation_of it.0.log) it.1 (gate_of it.0.log)
MatchPair (Err (Damaged file at, a, b)) image = image ≡ broken file at
MatchPair (Err (DiskFault, a, b)) image = Unit {0}
MatchPair (Err (Memory, a, b)) image = Unit {0}

abbrev pub IsPairFault : {D : Type 0} → Result (Pair D × List (List ℕ)) (PairFault × D × D) → Type 0
IsPairFault (Ok it) = ⊥
IsPairFault (Err (Damaged file at, a, b)) = ⊥
IsPairFault (Err (DiskFault, a, b)) = Unit {0}
IsPairFault (Err (Memory, a, b)) = ⊥

-- the first disk and the second, in the pair or handed back
abbrev pub first_after : {D : Type 0} → Result (Pair D × List (List ℕ)) (PairFault × D × D) → D
first_after (Ok it) = disk_a it.0
first_after (Err e) = e.1

abbrev pub second_after : {D : Type 0} → Result (Pair D × List (List ℕ)) (PairFault × D × D) → D
second_after (Ok it) = disk_b it.0
second_after (Err e) = e.2

-- If a fault is answered, the counter of one of the two disks rose. Otherwise both counters are unchanged.
pub record PairCounts (a now_a b now_b : ℕ) (Fault : Type 0) : Type 0 where
  pub later_a : a ≤ now_a
  pub later_b : b ≤ now_b
  pub cause : Fault → Rose a now_a ⊎ Rose b now_b
  pub calm : (Fault → ⊥) → (now_a ≡ a) × (now_b ≡ b)
