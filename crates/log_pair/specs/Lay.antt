-- What two files stand for while a pair is laid.
use Rattle.std.specs.Prelude.{◌⊎◌, ℕ, ◌+◌, List, length}
use Rattle.record_log.specs.fleet_ports.declared.disk.Disk as disk
use Rattle.log_spec.specs.Image.{closed}
use Rattle.log_spec.specs.ImageOf.{image_of, frame_texts}
use Rattle.log_spec.specs.PairImage.{PairImage, broken, counts, pair_image}
use Rattle.log_spec.specs.declared.side.Side.TheVariants.{A}
use Rattle.log_pair.specs.Pair.{IsPair}

abbrev pub laid_pair : List (List ℕ) → PairImage
laid_pair frames = counts A 1 frames (16 + length (frame_texts frames))

-- what one of these files stands for, beside a closed one
abbrev pub IsWithClosed : (List ℕ → Type 0) → List ℕ → List ℕ → Type 0
IsWithClosed images a b = (c : List ℕ) × images c × IsPair (pair_image (image_of c) closed) a b

-- no file is open, or the laid frames
abbrev pub IsOpeningPair : List (List ℕ) → List ℕ → List ℕ → Type 0
IsOpeningPair frames a b = IsPair (broken A 0) a b ⊎ IsPair (laid_pair frames) a b

-- what one of these files stands for beside a closed one, or no open file, or the laid frames
abbrev pub IsLayingPair : (List ℕ → Type 0) → List (List ℕ) → List ℕ → List ℕ → Type 0
IsLayingPair images frames a b = IsWithClosed images a b ⊎ IsOpeningPair frames a b

-- A pair of images within a call that finishes file b before it begins file a. It combines b at any moment since the call with a
-- at entry, or a at any moment since the call with b at exit.
pub record LaysWithin {D : Type 0} (may_leave : D → List ℕ → Type 0) (moment : D → ℕ) (left_since : D → ℕ → List ℕ → Type 0) (a b new_a new_b : D) (P : List ℕ → List ℕ → Type 0) : Type 0 where
  pub first_b : (c e : List ℕ) → may_leave a c → left_since new_b (moment b) e → P c e
  pub then_a : (c e : List ℕ) → left_since new_a (moment a) c → may_leave new_b e → P c e

-- the same, with the members of the bound as one value
abbrev pub LaysSecondFirst : {D : Type 0} → disk.Ghosts D → D → D → D → D → (List ℕ → List ℕ → Type 0) → Type 0
LaysSecondFirst d = LaysWithin d.may_leave d.moment d.left_since
