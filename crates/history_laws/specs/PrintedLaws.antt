-- Statements on the text that is printed for a moment.
use Rattle.std.specs.Prelude.{◌≡◌, ◌↔◌, ℤ, pos, neg_ℤ, List, ℕ}
use Rattle.jiff_core.specs.Calendar.{IsBetween}
use Rattle.spool_spec.specs.text_spec.Stamp.{IsPrintedStamp}
use Rattle.spool_spec.specs.fleet_rows.Printed.{full_text}

-- the years 0 to 9999: from 0000-01-01T00:00:00Z to 9999-12-31T23:59:59.999999999Z
abbrev pub IsInFourDigitYear : ℤ → Type 0
IsInFourDigitYear m = IsBetween (neg_ℤ (pos 62_167_219_200_000_000_000)) (pos 253_402_300_799_999_999_999) m

-- a moment of these years is printed as exactly its full text; no other moment is printed
abbrev pub FullTextsArePrinted : Type 0
FullTextsArePrinted = (text : List ℕ) (m : ℤ) → IsPrintedStamp 9 text m ↔ (IsInFourDigitYear m × (text ≡ full_text m))

-- moments with the same full text are equal
abbrev pub FullTextsTellTheMoment : Type 0
FullTextsTellTheMoment =
    (m n : ℤ) → IsInFourDigitYear m → IsInFourDigitYear n → full_text m ≡ full_text n → m ≡ n
