-- Reads frames as records, by a function that reads a record off a frame.
use Rattle.std.specs.Prelude.{◌≡◌, ◌⊎◌, ℕ, List, [], ◌∷◌, ◌++◌, Option, Some, None}
use Rattle.log_pair.specs.log_spec.PairImage.{PairImage, broken, counts}

abbrev pub join : {A : Type 0} → Option A → Option (List A) → Option (List A)
join None rs = None
join (Some r) None = None
join (Some r) (Some rs) = Some (r ∷ rs)

-- the records of the frames, or None if a frame is no record
abbrev pub read_all : {A : Type 0} → (List ℕ → Option A) → List (List ℕ) → Option (List A)
read_all read [] = Some []
read_all read (frame ∷ frames) = join (read frame) (read_all read frames)

-- the records of a pair, or None if it is damaged or a frame is no record
abbrev pub records_in : {A : Type 0} → (List ℕ → Option A) → PairImage → Option (List A)
records_in read (broken file at) = None
records_in read (counts side generation frames gate) = read_all read frames

abbrev pub with_one : {A : Type 0} → Option (List A) → A → Option (List A)
with_one None r = None
with_one (Some rs) r = Some (rs ++ r ∷ [])

-- either the old records or the new ones
abbrev pub IsOneOf : {A : Type 0} → Option A → Option A → Option A → Type 0
IsOneOf old new o = (o ≡ old) ⊎ (o ≡ new)

-- each image has these records
abbrev pub AllAre : {A : Type 0} → (Option A → Type 0) → Option A → Type 0
AllAre images records = (o : _) → images o → o ≡ records
