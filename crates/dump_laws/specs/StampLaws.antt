-- Statements on the stamps of a dump.
use Rattle.std.specs.Prelude.{◌≡◌, ℕ, ◌≤◌, ℤ, List, [], ◌∷◌, ◌++◌, Some}
use Rattle.dump_spec.specs.fleet_rows.Printed.{clock_at}
use Rattle.dump_spec.specs.history_spec.Lawful.{HasStamp}
use Rattle.dump_spec.specs.text_spec.Stamp.{IsStampOf, utc}
use Rattle.dump_spec.specs.Stamps.{short_stamp, short_text}

-- the text of a moment is a stamp of it, wherever the moment has one
abbrev pub ShortTextsAreStamps : Type 0
ShortTextsAreStamps = (m : ℤ) → HasStamp m → IsStampOf (short_text m) m

-- it ends with Z where the year in UTC has a stamp
abbrev pub ShortTextsAreInUtc : Type 0
ShortTextsAreInUtc = (m : ℤ) → 1 ≤ (clock_at m).year → (clock_at m).year ≤ 9900 → (short_stamp m).zone ≡ utc 90

-- its fraction doesn't end with 0
abbrev pub NoFractionEndsWithZero : Type 0
NoFractionEndsWithZero = (m : ℤ) (digits : List ℕ) → (short_stamp m).fraction ≡ Some (digits ++ 48 ∷ []) → ⊥
