-- A pair of log files whose frames are records.
use Rattle.std.specs.Prelude.{◌≡◌, ℕ, List, Option}
use Rattle.log_pair.specs.log_spec.ImageOf.{image_of}
use Rattle.log_pair.specs.log_spec.PairImage.{pair_image}
use Rattle.log_pair.specs.declared.pair.Pair.{Pair}
use Rattle.log_pair.specs.Pair.{disk_a, disk_b, pair_frames}
use Rattle.fleet_keeper.specs.Records.{read_all, records_in}

-- the records read from the disk of the file that counts
abbrev pub pair_records : {A D : Type 0} → (List ℕ → Option A) → (D → List ℕ) → Pair D → Option (List A)
pair_records read seen pair = read_all read (pair_frames seen pair)

-- the records of two files
abbrev pub records_at : {A : Type 0} → (List ℕ → Option A) → List ℕ → List ℕ → Option (List A)
records_at read a b = records_in read (pair_image (image_of a) (image_of b))

-- the records of an image of the one disk with an image of the other
abbrev pub PairImages : {A D : Type 0} → (List ℕ → Option A) → (D → List ℕ → Type 0) → Pair D → Option (List A) → Type 0
PairImages read may_leave pair o =
    (a : List ℕ) × (b : List ℕ) × may_leave (disk_a pair) a × may_leave (disk_b pair) b × (o ≡ records_at read a b)

-- the same at the moments since two numbers
abbrev pub PairSince : {A D : Type 0} → (List ℕ → Option A) → (D → ℕ → List ℕ → Type 0) → Pair D → ℕ × ℕ → Option (List A) → Type 0
PairSince read left_since pair t o =
    (a : List ℕ) × (b : List ℕ) × left_since (disk_a pair) t.0 a × left_since (disk_b pair) t.1 b × (o ≡ records_at read a b)
