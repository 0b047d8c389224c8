-- The laws of stamps.
use Rattle.std.specs.Prelude.{◌≡◌, ◌↔◌, ℕ, ◌-◌, ◌^◌, ◌≤◌, ℤ, pos, ◌-ℤ◌, List, Some}
use Rattle.std.specs.Int.{int_rem_euclid}
use Rattle.json_machine.specs.text_spec.Stamp.{IsStampOf, IsPrintedStamp}
use Rattle.json_machine.specs.text_spec.StampReader.{stamp_of}

-- the reader gives a moment exactly if the text is a stamp of it
abbrev pub StampsAreRead : Type 0
StampsAreRead = (text : List ℕ) (m : ℤ) → (stamp_of text ≡ Some m) ↔ IsStampOf text m

-- a text is a stamp of at most one moment
abbrev pub StampsNameOneMoment : Type 0
StampsNameOneMoment = (text : List ℕ) (m n : ℤ) → IsStampOf text m → IsStampOf text n → m ≡ n

-- the moment with its fraction cut to this many digits
abbrev pub cut : ℕ → ℤ → ℤ
cut digits m = m -ℤ int_rem_euclid m (pos (10 ^ (9 - digits)))

-- nine digits cut nothing
abbrev pub NineDigitsCutNothing : Type 0
NineDigitsCutNothing = (m : ℤ) → cut 9 m ≡ m

-- a moment has at most one printed text
abbrev pub MomentsPrintOneText : Type 0
MomentsPrintOneText = (digits : ℕ) (a b : List ℕ) (m : ℤ) → IsPrintedStamp digits a m → IsPrintedStamp digits b m → a ≡ b

-- two moments with the same printed text are equal after the cut
abbrev pub PrintedTextsTellTheCutMoment : Type 0
PrintedTextsTellTheCutMoment =
    (digits : ℕ) (text : List ℕ) (m n : ℤ) → digits ≤ 9 → IsPrintedStamp digits text m → IsPrintedStamp digits text n → cut digits m ≡ cut digits n

-- a text printed in the years 1 to 9900 is a stamp of the cut moment
abbrev pub PrintedTextsAreStamps : Type 0
PrintedTextsAreStamps =
    (digits : ℕ) (text : List ℕ) (m : ℤ) → 1 ≤ digits → digits ≤ 9 → (printed : IsPrintedStamp digits text m)
    → 1 ≤ printed.clock.year → printed.clock.year ≤ 9900 → IsStampOf text (cut digits m)
