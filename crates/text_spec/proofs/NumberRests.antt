-- What is left of a number behind a place of its grammar.
use Rattle.std.proofs.Common.{◌≡◌, ◌∙◌, ◌⊎◌, ℕ, ◌<◌, List, [], ◌∷◌, ◌++◌, refl, ap, Option, None, Some, arith}
use Rattle.std.specs.Char.{digit_value}
use Rattle.std.specs.Str.Parse.{AllDigits, IsNumeral}
use Rattle.text_spec.specs.Number.{Exponent, exponent_text, IsExponent, fraction_text, IsFraction}

abbrev pub ExponentRest : List ℕ → Type 0
ExponentRest ds = (x : Option Exponent) × IsExponent x × (ds ≡ exponent_text x)

abbrev pub PointRest : List ℕ → Type 0
PointRest ds = (f : Option (List ℕ)) × (x : Option Exponent) × IsFraction f × IsExponent x × (ds ≡ fraction_text f ++ exponent_text x)

abbrev pub DigitsThen : (List ℕ → Type 0) → (List ℕ → Type 0) → List ℕ → Type 0
DigitsThen P Q ds = (w : List ℕ) × (rest : List ℕ) × P w × Q rest × (ds ≡ w ++ rest)

abbrev pub IsSign : List ℕ → Type 0
IsSign sign = (sign ≡ []) ⊎ (sign ≡ 43 ∷ []) ⊎ (sign ≡ 45 ∷ [])

-- e and what follows
pub exponent_begun : (b : ℕ) (ds : List ℕ) → (b ≡ 101) ⊎ (b ≡ 69) → DigitsThen IsSign (IsNumeral 10) ds → ExponentRest (b ∷ ds)
exponent_begun b ds l r = (Some (record { letter = b; sign = r.0; digits = r.1 }), (l, r.2, r.3), ap (λ x. b ∷ x) r.4)

pub no_fraction : (ds : List ℕ) → ExponentRest ds → PointRest ds
no_fraction ds r = (None, r.0, tt, r.1, r.2)

-- the point and what follows
pub fraction_begun : (b : ℕ) (ds : List ℕ) → b ≡ 46 → DigitsThen (IsNumeral 10) ExponentRest ds → PointRest (b ∷ ds)
fraction_begun b ds e r = (Some r.0, r.3.0, r.2, r.3.1, λ i. e i ∷ (r.4 ∙ ap (λ x. r.0 ++ x) r.3.2) i)

-- one digit more
pub more : (P : List ℕ → Type 0) (b : ℕ) (ds : List ℕ) → digit_value b < 10 → DigitsThen (AllDigits 10) P ds → DigitsThen (AllDigits 10) P (b ∷ ds)
more P b ds d r = (b ∷ r.0, r.1, (d, r.2), r.3, ap (λ x. b ∷ x) r.4)

pub begun : (P : List ℕ → Type 0) (b : ℕ) (ds : List ℕ) → digit_value b < 10 → DigitsThen (AllDigits 10) P ds → DigitsThen (IsNumeral 10) P (b ∷ ds)
begun P b ds d r = (b ∷ r.0, r.1, (omega arith, (d, r.2)), r.3, ap (λ x. b ∷ x) r.4)

pub none : (P : List ℕ → Type 0) (ds : List ℕ) → P ds → DigitsThen (AllDigits 10) P ds
none P ds r = ([], ds, tt, r, refl)

pub no_more : PointRest []
no_more = (None, None, tt, tt, refl)
