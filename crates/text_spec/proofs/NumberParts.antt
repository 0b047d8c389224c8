-- The parts that are read from the text of a number are those that were written.
use Rattle.std.proofs.Common.{◌≡◌, ℕ, ◌<◌, List, [], ◌∷◌, ◌++◌, get_or, Bool, true, false, ◌==◌, ◌||◌, if◌then◌else◌, Option, Some, None, refl, ap, ◌∙◌, arith, append_assoc, inl, inr, ◌⊎◌}
use Rattle.std.specs.Char.{is_ascii_digit, digit_value}
use Rattle.std.specs.Str.Parse.{AllDigits, IsNumeral}
use Rattle.plain_laws.proofs.Digits.{digit_is, digit_no_sign, digit_no_minus}
use Rattle.text_spec.specs.Number.{NumberText, Exponent, IsNumberText, IsFraction, IsExponent, IsWhole, number_text, number_in, fraction_text, exponent_text, digits_front, behind_digits, behind_minus, begins_with_minus, fraction_front, behind_fraction, exponent_front, behind_sign, sign_front}

no_minus : (x : ℕ) → digit_value x < 10 → (x == 45) ≡ false
no_minus x h = digit_no_minus x (digit_is x h)

no_sign : (x : ℕ) → digit_value x < 10 → ((x == 43) || (x == 45)) ≡ false
no_sign x h = digit_no_sign x (digit_is x h)

-- a numeral that doesn't begin with 0
pub whole_numeral : (ds : List ℕ) → IsNumeral 10 ds → 48 < get_or ds 0 0 → IsWhole ds
whole_numeral [] h first = absurd (omega (arith, h.0))
whole_numeral (d ∷ ds) h first = (h.1, λ e. absurd (omega (arith, first, e)))

-- the text doesn't begin with a digit
abbrev BeginsOtherwise : List ℕ → Type 0
BeginsOtherwise [] = Unit {0}
BeginsOtherwise (x ∷ xs) = is_ascii_digit x ≡ false

digits_front-is : (ds rest : List ℕ) → AllDigits 10 ds → BeginsOtherwise rest → digits_front (ds ++ rest) ≡ ds
digits_front-is [] [] h o = refl
digits_front-is [] (x ∷ rest) h o = rw o refl
digits_front-is (d ∷ ds) rest h o = rw (digit_is d h.0) (ap (λ t. d ∷ t) (digits_front-is ds rest h.1 o))

behind_digits-is : (ds rest : List ℕ) → AllDigits 10 ds → BeginsOtherwise rest → behind_digits (ds ++ rest) ≡ rest
behind_digits-is [] [] h o = refl
behind_digits-is [] (x ∷ rest) h o = rw o refl
behind_digits-is (d ∷ ds) rest h o = rw (digit_is d h.0) (behind_digits-is ds rest h.1 o)

-- the sign in front of the whole digits w
module _ (r q : List ℕ) where
  begins_with_minus-is : (minus : Bool) (w : List ℕ) → IsWhole w → begins_with_minus ((((if minus then 45 ∷ [] else []) ++ w) ++ r) ++ q) ≡ minus
  begins_with_minus-is true w h = refl
  begins_with_minus-is false [] h = absurd h
  begins_with_minus-is false (d ∷ ds) h = no_minus d h.0.0

  behind_minus-is : (minus : Bool) (w : List ℕ) → IsWhole w → behind_minus ((((if minus then 45 ∷ [] else []) ++ w) ++ r) ++ q) ≡ w ++ (r ++ q)
  behind_minus-is true w h = append_assoc w r q
  behind_minus-is false [] h = absurd h
  behind_minus-is false (d ∷ ds) h = rw (no_minus d h.0.0) (ap (λ t. d ∷ t) (append_assoc ds r q))

pub all_digits : (w : List ℕ) → IsWhole w → AllDigits 10 w
all_digits [] h = absurd h
all_digits (d ∷ ds) h = h.0

-- what stands at an exponent is no digit and no point
at_letter : (x : ℕ) → (x ≡ 101) ⊎ (x ≡ 69) → (is_ascii_digit x ≡ false) × ((x == 46) ≡ false)
at_letter x (inl e) = rw e (refl, refl)
at_letter x (inr e) = rw e (refl, refl)

behind_fraction_otherwise : (e : Option Exponent) → IsExponent e → BeginsOtherwise (exponent_text e)
behind_fraction_otherwise None h = tt
behind_fraction_otherwise (Some e) h = (at_letter e.letter h.0).0

behind_whole_otherwise : (f : Option (List ℕ)) (e : Option Exponent) → IsExponent e → BeginsOtherwise (fraction_text f ++ exponent_text e)
behind_whole_otherwise None e h = behind_fraction_otherwise e h
behind_whole_otherwise (Some ds) e h = refl

fraction_front-is : (f : Option (List ℕ)) (e : Option Exponent) → IsFraction f → IsExponent e → fraction_front (fraction_text f ++ exponent_text e) ≡ f
fraction_front-is None None g h = refl
fraction_front-is None (Some e) g h = rw ((at_letter e.letter h.0).1) refl
fraction_front-is (Some ds) e g h = ap Some (digits_front-is ds (exponent_text e) g.1 (behind_fraction_otherwise e h))

behind_fraction-is : (f : Option (List ℕ)) (e : Option Exponent) → IsFraction f → IsExponent e → behind_fraction (fraction_text f ++ exponent_text e) ≡ exponent_text e
behind_fraction-is None None g h = refl
behind_fraction-is None (Some e) g h = rw ((at_letter e.letter h.0).1) refl
behind_fraction-is (Some ds) e g h = behind_digits-is ds (exponent_text e) g.1 (behind_fraction_otherwise e h)

sign_parts : (s ds : List ℕ) → (s ≡ []) ⊎ (s ≡ 43 ∷ []) ⊎ (s ≡ 45 ∷ []) → IsNumeral 10 ds → (sign_front (s ++ ds) ≡ s) × (behind_sign (s ++ ds) ≡ ds)
sign_parts s [] o h = absurd (omega arith)
sign_parts s (d ∷ ds) (inl e) h = rw (e, no_sign d h.1.0) (refl, refl)
sign_parts s (d ∷ ds) (inr (inl e)) h = rw e (refl, refl)
sign_parts s (d ∷ ds) (inr (inr e)) h = rw e (refl, refl)

exponent_front-is : (e : Option Exponent) → IsExponent e → exponent_front (exponent_text e) ≡ e
exponent_front-is None h = refl
exponent_front-is (Some e) h = let parts = sign_parts e.sign e.digits h.1 h.2 in λ i. Some (record { letter = e.letter; sign = parts.0 i; digits = parts.1 i })

pub number_in_number_text : (n : NumberText) → IsNumberText n → number_in (number_text n) ≡ n
number_in_number_text n h =
    let rest = fraction_text n.fraction ++ exponent_text n.exponent in
    let unsigned = behind_minus-is (fraction_text n.fraction) (exponent_text n.exponent) n.minus n.whole h.0 in
    let otherwise = behind_whole_otherwise n.fraction n.exponent h.2 in
    let behind = ap behind_digits unsigned ∙ behind_digits-is n.whole rest (all_digits n.whole h.0) otherwise in
    λ i. record {
      minus = begins_with_minus-is (fraction_text n.fraction) (exponent_text n.exponent) n.minus n.whole h.0 i;
      whole = (ap digits_front unsigned ∙ digits_front-is n.whole rest (all_digits n.whole h.0) otherwise) i;
      fraction = (ap fraction_front behind ∙ fraction_front-is n.fraction n.exponent h.1 h.2) i;
      exponent = (ap (λ t. exponent_front (behind_fraction t)) behind ∙ ap exponent_front (behind_fraction-is n.fraction n.exponent h.1 h.2) ∙ exponent_front-is n.exponent h.2) i;
    }
