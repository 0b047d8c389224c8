-- The laws of numbers.
use Rattle.std.specs.Prelude.{◌≡◌, ◌↔◌, ℕ, ℤ, List, Some, None}
use Rattle.std.specs.declared.cmp.Ordering.TheVariants.{Equal}
use Rattle.std.specs.Ordering.{int_cmp}
use Rattle.json_machine.specs.text_spec.Number.{NumberText, IsNumberText, number_text, number_in, IsNumber, IsScaled, scaled, compare}

-- reading a number's text gives back the parts that it was written from
abbrev pub NumberTextsTellTheirParts : Type 0
NumberTextsTellTheirParts = (n : NumberText) → IsNumberText n → number_in (number_text n) ≡ n

-- two numbers with the same text have the same parts
abbrev pub NumberTextsHaveOneReading : Type 0
NumberTextsHaveOneReading = (n p : NumberText) → IsNumberText n → IsNumberText p → number_text n ≡ number_text p → n ≡ p

abbrev pub ScaledIsTheValue : Type 0
ScaledIsTheValue = (s : List ℕ) (m : ℤ) → IsNumber s → (scaled s ≡ Some m) ↔ IsScaled s m

abbrev pub NumbersHaveAtMostOneValue : Type 0
NumbersHaveAtMostOneValue = (s : List ℕ) (m n : ℤ) → IsScaled s m → IsScaled s n → m ≡ n

abbrev pub IsUnscaled : List ℕ → Type 0
IsUnscaled s = IsNumber s × ((m : ℤ) → ¬ IsScaled s m)

-- an unscaled number equals its own spelling, and has no order with any other text, on either side
abbrev pub ComparesBySpelling : List ℕ → List ℕ → Type 0
ComparesBySpelling s t = (s ≡ t → compare s t ≡ Some Equal) × (¬ (s ≡ t) → (compare s t ≡ None) × (compare t s ≡ None))

pub record NumbersCompareByValue : Type 0 where
  pub scaled_numbers : (s t : List ℕ) (m n : ℤ) → IsScaled s m → IsScaled t n → compare s t ≡ Some (int_cmp m n)
  pub unscaled_numbers : (s t : List ℕ) → IsUnscaled s → ComparesBySpelling s t
