-- What two files that take turns stand for together.
use Rattle.std.specs.Prelude.{◌≡◌, ◌⊎◌, ℕ, ◌<◌, ◌≤◌, if◌then◌else◌, nat_lt, List}
use Rattle.log_spec.specs.Image.{Image, closed, damaged, standing, IsImage}
use Rattle.log_spec.specs.declared.side.Side.{Side}
use Rattle.log_spec.specs.declared.side.Side.TheVariants.{A, B}

-- The pair is damaged in one file at an offset, or one file counts, with its generation, frames and first closed gate.
pub data PairImage : Type 0 where
  broken : Side → ℕ → PairImage
  counts : Side → ℕ → List (List ℕ) → ℕ → PairImage

-- the file is closed, or open with a generation that satisfies P
abbrev pub IsClosedOr : (ℕ → Type 0) → List ℕ → Type 0
IsClosedOr P file = IsImage file closed ⊎ ((h : ℕ) × (frames : List (List ℕ)) × (gate : ℕ) × P h × IsImage file (standing h frames gate))

-- The two files stand for this. An open damaged file makes the pair damaged there; file a is checked first. Otherwise the open
-- file with the greater generation counts; if they are equal, file a. If no file is open, file a is damaged at 0.
abbrev pub IsPairImage : List ℕ → List ℕ → PairImage → Type 0
IsPairImage a b (broken A at) = IsImage a (damaged at) ⊎ (IsImage a closed × IsImage b closed × (at ≡ 0))
IsPairImage a b (broken B at) = IsImage b (damaged at) × ((place : ℕ) → IsImage a (damaged place) → ⊥)
IsPairImage a b (counts A generation frames gate) = IsImage a (standing generation frames gate) × IsClosedOr (λ h. h ≤ generation) b
IsPairImage a b (counts B generation frames gate) = IsImage b (standing generation frames gate) × IsClosedOr (λ h. h < generation) a

-- the same as a function of the two images
abbrev pub pair_image : Image → Image → PairImage
pair_image closed closed = broken A 0
pair_image closed (damaged at) = broken B at
pair_image closed (standing h gs q) = counts B h gs q
pair_image (damaged at) b = broken A at
pair_image (standing g fs p) closed = counts A g fs p
pair_image (standing g fs p) (damaged at) = broken B at
pair_image (standing g fs p) (standing h gs q) = if nat_lt g h then counts B h gs q else counts A g fs p
