-- What a stream is given: a text, or a prefix of it after a fault.
use Rattle.std.specs.Prelude.{ℕ, ◌≤◌, ◌<◌, List, length, take, Option}
use Rattle.std.specs.Io.KnownBytes.{Appends}
use Rattle.query_answer.specs.fleet_ports.Counts.{Rose}

-- a stream at one moment: its bytes, if they are told, and its fault count
pub record Stream : Type 0 where
  pub bytes : Option (List ℕ)
  pub faults : ℕ

abbrev pub stream : Option (List ℕ) → ℕ → Stream
stream bytes faults = record { bytes = bytes; faults = faults }

-- a prefix of the text was appended
abbrev pub AppendsFront : List ℕ → Option (List ℕ) → Option (List ℕ) → Type 0
AppendsFront text before after = (taken : ℕ) × (taken ≤ length text) × Appends before after (take taken text)

-- less than the whole text was appended
abbrev pub AppendsLess : List ℕ → Option (List ℕ) → Option (List ℕ) → Type 0
AppendsLess text before after = (taken : ℕ) × (taken < length text) × Appends before after (take taken text)

-- the text was appended: all of it if the fault count didn't rise, and otherwise a prefix
pub record IsTold (text : List ℕ) (before after : Stream) : Type 0 where
  pub front : AppendsFront text before.bytes after.bytes
  pub whole : (¬ Rose before.faults after.faults) → Appends before.bytes after.bytes text
  pub later : before.faults ≤ after.faults
