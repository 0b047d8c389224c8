-- When frames are the spellings of records. This definition can't be proved; a reader must agree with it.
use Rattle.std.specs.Prelude.{◌≡◌, ℕ, ◌<◌, List, map}
use Rattle.std.specs.List.{AllByRecursion}

-- a list of bytes
abbrev pub IsByteList : List ℕ → Type 0
IsByteList bytes = AllByRecursion (λ b. b < 256) bytes

-- the frames are the spellings of these records, one by one
pub record AreRecords {A : Type 0} (text : A → List ℕ) (IsRecord : A → Type 0) (frames : List (List ℕ)) (records : List A) : Type 0 where
  pub lawful : AllByRecursion IsRecord records
  pub spelt : frames ≡ map text records
