-- What the bytes of a log file stand for, as a relation.
use Rattle.std.specs.Prelude.{◌≡◌, ◌≢◌, ◌⊎◌, ℕ, ◌+◌, ◌<◌, ◌≤◌, List, [], ◌∷◌, length, take, drop, get_or, codes}
use Rattle.std.specs.Int.{w32, w64, from_le_bytes}

-- A file is closed, damaged at an offset, or open. An open file has a generation, frames, and the offset of its first closed
-- gate.
pub data Image : Type 0 where
  closed : Image
  damaged : ℕ → Image
  standing : ℕ → List (List ℕ) → ℕ → Image

-- a file is open if it has at least 17 bytes and its first byte is 1
abbrev pub IsOpen : List ℕ → Type 0
IsOpen file = (17 ≤ length file) × (get_or file 0 0 ≡ 1)

abbrev pub magic : List ℕ
magic = codes "PDBLOG1"

abbrev pub HasMagic : List ℕ → Type 0
HasMagic file = take 7 (drop 1 file) ≡ magic

abbrev pub generation_in : List ℕ → ℕ
generation_in file = from_le_bytes w64 (take 8 (drop 8 file))

-- the length that follows the gate at offset p
abbrev pub length_at : List ℕ → ℕ → ℕ
length_at file p = from_le_bytes w32 (take 4 (drop (p + 1) file))

-- A frame is at offset p: its gate is open, its length and its bytes follow, and at least one more byte follows them.
pub record FrameAt (file : List ℕ) (p : ℕ) (frame : List ℕ) : Type 0 where
  pub gate : get_or file p 0 ≡ 1
  pub size : length frame ≡ length_at file p
  pub body : take (length frame) (drop (p + 5) file) ≡ frame
  pub inside : p + 5 + length frame < length file

-- consecutive frames lead from offset p to offset q
abbrev pub FramesTo : List ℕ → ℕ → List (List ℕ) → ℕ → Type 0
FramesTo file p [] q = p ≡ q
FramesTo file p (frame ∷ frames) q = FrameAt file p frame × FramesTo file (p + 5 + length frame) frames q

-- the gate at offset q is closed
abbrev pub IsShutAt : List ℕ → ℕ → Type 0
IsShutAt file q = (q < length file) × (get_or file q 0 ≢ 1)

-- Offset q is at or past the end, or its gate is open and the frame there leaves no byte after it.
abbrev pub IsBrokenAt : List ℕ → ℕ → Type 0
IsBrokenAt file q = (length file ≤ q) ⊎ ((get_or file q 0 ≡ 1) × (length file ≤ q + 5 + length_at file q))

-- an open file with frames up to the first closed gate
pub record IsStanding (file : List ℕ) (generation : ℕ) (frames : List (List ℕ)) (gate : ℕ) : Type 0 where
  pub is_open : IsOpen file
  pub has_magic : HasMagic file
  pub generation_is : generation ≡ generation_in file
  pub run : FramesTo file 16 frames gate
  pub shut : IsShutAt file gate

-- an open file whose frames break off at an offset
pub record BreaksOff (file : List ℕ) (at : ℕ) : Type 0 where
  pub is_open : IsOpen file
  pub has_magic : HasMagic file
  pub frames : List (List ℕ)
  pub run : FramesTo file 16 frames at
  pub broken : IsBrokenAt file at

-- an open file that is no log
pub record IsOther (file : List ℕ) : Type 0 where
  pub is_open : IsOpen file
  pub no_magic : HasMagic file → ⊥

-- The file stands for this image. An open file without the magic is damaged at 1.
abbrev pub IsImage : List ℕ → Image → Type 0
IsImage file closed = IsOpen file → ⊥
IsImage file (damaged at) = (IsOther file × (at ≡ 1)) ⊎ BreaksOff file at
IsImage file (standing generation frames gate) = IsStanding file generation frames gate
