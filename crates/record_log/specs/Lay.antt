-- The possible contents of a disk while a log is laid, that is, initialized.
use Rattle.std.specs.Prelude.{◌≡◌, ◌≢◌, ◌⊎◌, ℕ, ◌+◌, ◌^◌, ◌<◌, ◌≤◌, List, [], ◌∷◌, length, get_or, Result, Ok, Err}
use Rattle.fleet_ports.specs.Disks.{Cut}
use Rattle.log_spec.specs.Image.{closed}
use Rattle.log_spec.specs.ImageOf.{image_of, frame_texts, rest_text, laid_image, AllShort}
use Rattle.record_log.specs.declared.laid.LayFault.{LayFault}
use Rattle.record_log.specs.declared.laid.LayFault.TheVariants.{DiskFault, TooLong}
use Rattle.log_spec.specs.Limits.{most_log}

-- the size of a laid file in bytes
abbrev pub laid_size : List (List ℕ) → ℕ
laid_size frames = 17 + length (frame_texts frames)

-- Each frame is shorter than 2^32 bytes, and the file has at most 2^62.
pub record Fits (frames : List (List ℕ)) : Type 0 where
  pub short : AllShort frames
  pub small : laid_size frames ≤ most_log

-- some frame has 2^32 bytes or more
abbrev pub AnyLong : List (List ℕ) → Type 0
AnyLong [] = ⊥
AnyLong (f ∷ fs) = (2 ^ 32 ≤ length f) ⊎ AnyLong fs

-- some frame is too long for its four bytes of length, or the file would exceed 2^62 bytes
abbrev pub IsTooLong : List (List ℕ) → Type 0
IsTooLong frames = AnyLong frames ⊎ (most_log < laid_size frames)

-- the first byte isn't 1, so the file is closed
abbrev pub IsShut : List ℕ → Type 0
IsShut c = get_or c 0 0 ≢ 1

abbrev pub AllShut : (List ℕ → Type 0) → Type 0
AllShut images = (c : List ℕ) → images c → IsShut c

-- one of these files, or a closed one
abbrev pub IsOldOrClosed : (List ℕ → Type 0) → List ℕ → Type 0
IsOldOrClosed images c = images c ⊎ (image_of c ≡ closed)

-- one of these files, cut to its first byte: the bytes past it stay, change arbitrarily or are gone
abbrev pub CutFrom : (List ℕ → Type 0) → List ℕ → Type 0
CutFrom images c = (d : List ℕ) × images d × Cut 1 d c

abbrev pub IsClosed : List ℕ → Type 0
IsClosed c = image_of c ≡ closed

-- the same, or the laid file
abbrev pub IsLaying : (List ℕ → Type 0) → ℕ → List (List ℕ) → List ℕ → Type 0
IsLaying images generation frames c = IsOldOrClosed images c ⊎ (image_of c ≡ laid_image generation frames)

abbrev pub IsLayFault : {T : Type 0} → Result T LayFault → Type 0
IsLayFault (Ok it) = ⊥
IsLayFault (Err (DiskFault opened)) = Unit {0}
IsLayFault (Err TooLong) = ⊥

-- the laid file with any first byte: it stands for the frames or is closed, and writing 0 at 0 closes it
abbrev pub IsLaidOrTorn : ℕ → List (List ℕ) → List ℕ → Type 0
IsLaidOrTorn generation frames c = (first : ℕ) × (c ≡ first ∷ rest_text generation frames)

abbrev pub AllLaid : (List ℕ → Type 0) → ℕ → List (List ℕ) → Type 0
AllLaid images generation frames = (c : List ℕ) → images c → IsLaidOrTorn generation frames c
