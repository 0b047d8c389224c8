-- What contracts see of a pair, and what the pairs of images of its disks stand for.
use Rattle.std.specs.Prelude.{◌≡◌, ℕ, ◌<◌, ◌≤◌, Bool, ◌||◌, false, List}
use Rattle.record_log.specs.fleet_ports.declared.disk.Disk as disk
use Rattle.record_log.specs.fleet_ports.Moments.{LeavesOnly}
use Rattle.log_spec.specs.Image.{Image, closed, damaged, standing}
use Rattle.log_spec.specs.ImageOf.{image_of}
use Rattle.log_spec.specs.PairImage.{PairImage, counts, pair_image}
use Rattle.log_spec.specs.declared.side.Side.{Side}
use Rattle.log_spec.specs.declared.side.Side.TheVariants.{A, B}
use Rattle.record_log.specs.declared.log.Log.{Log}
use Rattle.record_log.specs.Log.{disk_of, generation_of, gate_of, size_of, down_of, StandsFor, log_frames}
use Rattle.log_pair.specs.declared.pair.Pair.{Pair}

-- the other side
abbrev pub flipped : Side → Side
flipped A = B
flipped B = A

abbrev pub side_of : {D : Type 0} → Pair D → Side
side_of pair = pair.side

abbrev pub log_of : {D : Type 0} → Pair D → Log D
log_of pair = pair.log

-- the disk of the file that counts, and the disk of the other file
abbrev pub newest_of : {D : Type 0} → Pair D → D
newest_of pair = disk_of pair.log

abbrev pub other_of : {D : Type 0} → Pair D → D
other_of pair = pair.other

-- the first value if the two sides are equal, otherwise the second
abbrev pub picked : {X : Type 0} → Side → Side → X → X → X
picked A A x y = x
picked A B x y = y
picked B A x y = y
picked B B x y = x

-- the disk of a file
abbrev pub file_of : {D : Type 0} → Side → Pair D → D
file_of side pair = picked side pair.side (disk_of pair.log) pair.other

abbrev pub disk_a : {D : Type 0} → Pair D → D
disk_a pair = file_of A pair

abbrev pub disk_b : {D : Type 0} → Pair D → D
disk_b pair = file_of B pair

-- the generation and the size of the file that counts
abbrev pub generation_of_pair : {D : Type 0} → Pair D → ℕ
generation_of_pair pair = generation_of pair.log

abbrev pub size_of_pair : {D : Type 0} → Pair D → ℕ
size_of_pair pair = size_of pair.log

abbrev pub is_down_of : {D : Type 0} → Pair D → Bool
is_down_of pair = pair.torn || down_of pair.log

-- the frames in what the disk of the counting file gives to a read
abbrev pub pair_frames : {D : Type 0} → (D → List ℕ) → Pair D → List (List ℕ)
pair_frames seen pair = log_frames seen pair.log

-- P of the first file and the second, if `one` is the file of this side
abbrev pub InOrder : Side → (List ℕ → List ℕ → Type 0) → List ℕ → List ℕ → Type 0
InOrder A P one other = P one other
InOrder B P one other = P other one

-- the two files stand for this
abbrev pub IsPair : PairImage → List ℕ → List ℕ → Type 0
IsPair image a b = pair_image (image_of a) (image_of b) ≡ image

-- each image of one disk combined with each of the other
abbrev pub EachPair : (List ℕ → Type 0) → (List ℕ → Type 0) → (List ℕ → List ℕ → Type 0) → Type 0
EachPair first second P = (a b : List ℕ) → first a → second b → P a b

-- each pair of images of the disks satisfies P
abbrev pub AllPairs : {D : Type 0} → (D → List ℕ → Type 0) → Pair D → (List ℕ → List ℕ → Type 0) → Type 0
AllPairs may_leave pair P = EachPair (may_leave (disk_a pair)) (may_leave (disk_b pair)) P

-- each pair of images stands for these frames, in the file that counts, with its generation and first closed gate
abbrev pub PairStands : {D : Type 0} → (D → List ℕ → Type 0) → Pair D → List (List ℕ) → Type 0
PairStands may_leave pair frames = AllPairs may_leave pair (IsPair (counts pair.side (generation_of pair.log) frames (gate_of pair.log)))

-- One call writes one file and leaves the other unchanged. P holds of each image of the written file at any moment of the call,
-- combined with each image of the other.
pub record Within {D : Type 0} (may_leave : D → List ℕ → Type 0) (moment : D → ℕ) (left_since : D → ℕ → List ℕ → Type 0) (written : Side) (old new : Pair D) (P : List ℕ → List ℕ → Type 0) : Type 0 where
  pub untouched : file_of (flipped written) new ≡ file_of (flipped written) old
  pub moments : LeavesOnly moment left_since (file_of written old) (file_of written new) (λ c. (e : List ℕ) → may_leave (file_of (flipped written) old) e → InOrder written P c e)

-- the same, with the members of the bound as one value
abbrev pub WritesOneFile : {D : Type 0} → disk.Ghosts D → Side → Pair D → Pair D → (List ℕ → List ℕ → Type 0) → Type 0
WritesOneFile d = Within d.may_leave d.moment d.left_since

-- a file that doesn't count beside a file of this side and generation: closed, of a smaller generation, or file b of the same
-- generation
abbrev pub IsBehind : Side → ℕ → Image → Type 0
IsBehind side generation closed = Unit {0}
IsBehind side generation (damaged at) = ⊥
IsBehind A generation (standing h frames gate) = h ≤ generation
IsBehind B generation (standing h frames gate) = h < generation

-- The pair can be called: it isn't down, each image of the counting file stands for its frames, and the other file is behind in
-- each image.
pub record IsGood {D : Type 0} (seen : D → List ℕ) (may_leave : D → List ℕ → Type 0) (pair : Pair D) : Type 0 where
  pub up : is_down_of pair ≡ false
  pub log : StandsFor may_leave pair.log (log_frames seen pair.log)
  pub other : (e : List ℕ) → may_leave pair.other e → IsBehind pair.side (generation_of pair.log) (image_of e)
