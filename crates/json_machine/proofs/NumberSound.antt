-- Law 3 for numbers: what the machine takes as a number is one.
use Rattle.std.proofs.Common.{◌≡◌, ◌∙◌, inl, inr, ℕ, ◌<◌, List, [], ◌∷◌, ◌++◌, refl, sym, ap, subst, true, false, ◌||◌, Option, Some, None, arith, append_assoc, ◌==◌, if◌then◌else◌}
use Rattle.std.specs.Char.{digit_value, is_ascii_digit}
use Rattle.std.specs.Str.Parse.{AllDigits, IsNumeral}
use Rattle.text_spec.proofs.of_plain_laws.Digits.{digit_back}
use Rattle.text_spec.proofs.NumberRests.{ExponentRest, PointRest, DigitsThen, IsSign, exponent_begun, no_fraction, fraction_begun, more, begun, none, no_more}
use Rattle.text_spec.proofs.of_plain_laws.Booleans.{eq_is, neq_is, either_is, no_truth}
use Rattle.text_spec.proofs.of_plain_laws.Options.{choose, none_some, some_same}
use Rattle.text_spec.specs.Number.{IsNumber, exponent_text, fraction_text, IsWhole}
use Rattle.json_machine.specs.Machine.{NumberState, after_minus, after_zero, in_whole, after_dot, in_fraction, after_e, after_sign, in_exponent, number_step, to_point, to_power, may_end}

-- what is left of a number behind each state

abbrev pub NumberRest : NumberState → List ℕ → Type 0
NumberRest after_minus ds = DigitsThen IsWhole PointRest ds
NumberRest after_zero ds = PointRest ds
NumberRest in_whole ds = DigitsThen (AllDigits 10) PointRest ds
NumberRest after_dot ds = DigitsThen (IsNumeral 10) ExponentRest ds
NumberRest in_fraction ds = DigitsThen (AllDigits 10) ExponentRest ds
NumberRest after_e ds = DigitsThen IsSign (IsNumeral 10) ds
NumberRest after_sign ds = IsNumeral 10 ds
NumberRest in_exponent ds = AllDigits 10 ds

arrive : (u t : NumberState) (ds : List ℕ) → Some u ≡ Some t → NumberRest t ds → NumberRest u ds
arrive u t ds e r = subst (λ s. NumberRest s ds) (some_same u t e) r

power : (b : ℕ) (t : NumberState) (ds : List ℕ) → to_power b ≡ Some t → NumberRest t ds → ExponentRest (b ∷ ds)
power b t ds h r = choose ((b == 101) || (b == 69)) (Some after_e) None (Some t) (ExponentRest (b ∷ ds)) h
    (λ e g. exponent_begun b ds (either_is b 101 69 e) (arrive after_e t ds g r))
    (λ e g. none_some t g)

point : (b : ℕ) (t : NumberState) (ds : List ℕ) → to_point b ≡ Some t → NumberRest t ds → PointRest (b ∷ ds)
point b t ds h r = choose (b == 46) (Some after_dot) (to_power b) (Some t) (PointRest (b ∷ ds)) h
    (λ e g. fraction_begun b ds (eq_is b 46 e) (arrive after_dot t ds g r))
    (λ e g. no_fraction (b ∷ ds) (power b t ds g r))

whole_begun : (b : ℕ) (ds : List ℕ) → (b == 48) ≡ false → digit_value b < 10 → NumberRest in_whole ds → NumberRest after_minus (b ∷ ds)
whole_begun b ds e d r = (b ∷ r.0, r.1, ((d, r.2), λ z. absurd (neq_is b 48 e z)), r.3, ap (λ x. b ∷ x) r.4)

whole_zero : (b : ℕ) (ds : List ℕ) → b ≡ 48 → PointRest ds → NumberRest after_minus (b ∷ ds)
whole_zero b ds e r = (b ∷ [], ds, ((subst (λ x. digit_value x < 10) (sym e) (omega arith), tt), λ z. refl), r, refl)

digit_or : (b : ℕ) (u t : NumberState) (other : Option NumberState) (ds : List ℕ) (P : Type 0) → (if is_ascii_digit b then Some u else other) ≡ Some t → NumberRest t ds → (digit_value b < 10 → NumberRest u ds → P) → (other ≡ Some t → P) → P
digit_or b u t other ds P h r so no' = choose (is_ascii_digit b) (Some u) other (Some t) P h (λ e g. so (digit_back b e) (arrive u t ds g r)) (λ e g. no' g)

pub number-sound : (s t : NumberState) (b : ℕ) (ds : List ℕ) → number_step s b ≡ Some t → NumberRest t ds → NumberRest s (b ∷ ds)
number-sound after_minus t b ds h r = choose (b == 48) (Some after_zero) _ (Some t) (NumberRest after_minus (b ∷ ds)) h
    (λ e g. whole_zero b ds (eq_is b 48 e) (arrive after_zero t ds g r))
    (λ e g. digit_or b in_whole t None ds (NumberRest after_minus (b ∷ ds)) g r (λ d q. whole_begun b ds e d q) (λ g. none_some t g))
number-sound after_zero t b ds h r = point b t ds h r
number-sound in_whole t b ds h r = digit_or b in_whole t (to_point b) ds (NumberRest in_whole (b ∷ ds)) h r (λ d q. more PointRest b ds d q) (λ g. none PointRest (b ∷ ds) (point b t ds g r))
number-sound after_dot t b ds h r = digit_or b in_fraction t None ds (NumberRest after_dot (b ∷ ds)) h r (λ d q. begun ExponentRest b ds d q) (λ g. none_some t g)
number-sound in_fraction t b ds h r = digit_or b in_fraction t (to_power b) ds (NumberRest in_fraction (b ∷ ds)) h r (λ d q. more ExponentRest b ds d q) (λ g. none ExponentRest (b ∷ ds) (power b t ds g r))
number-sound after_e t b ds h r = choose ((b == 43) || (b == 45)) (Some after_sign) _ (Some t) (NumberRest after_e (b ∷ ds)) h
    (λ e g. elim (either_is b 43 45 e) [
      | inl x ↦ (b ∷ [], ds, inr (inl (ap (λ y. y ∷ []) x)), arrive after_sign t ds g r, refl)
      | inr x ↦ (b ∷ [], ds, inr (inr (ap (λ y. y ∷ []) x)), arrive after_sign t ds g r, refl)
    ])
    (λ e g. digit_or b in_exponent t None ds (NumberRest after_e (b ∷ ds)) g r (λ d q. ([], b ∷ ds, inl refl, (omega arith, (d, q)), refl)) (λ g. none_some t g))
number-sound after_sign t b ds h r = digit_or b in_exponent t None ds (NumberRest after_sign (b ∷ ds)) h r (λ d q. (omega arith, (d, q))) (λ g. none_some t g)
number-sound in_exponent t b ds h r = digit_or b in_exponent t None ds (NumberRest in_exponent (b ∷ ds)) h r (λ d q. (d, q)) (λ g. none_some t g)

pub number-ended : (s : NumberState) → may_end s ≡ true → NumberRest s []
number-ended after_minus h = no_truth h
number-ended after_zero h = no_more
number-ended in_whole h = none PointRest [] no_more
number-ended after_dot h = no_truth h
number-ended in_fraction h = none ExponentRest [] (None, tt, refl)
number-ended after_e h = no_truth h
number-ended after_sign h = no_truth h
number-ended in_exponent h = tt

-- what a value begins with
pub minus_number : (ds : List ℕ) → NumberRest after_minus ds → IsNumber (45 ∷ ds)
minus_number ds r = (record { minus = true; whole = r.0; fraction = r.3.0; exponent = r.3.1 }, (r.2, r.3.2, r.3.3), ap (λ x. 45 ∷ x) (r.4 ∙ ap (λ x. r.0 ++ x) r.3.4 ∙ sym (append_assoc r.0 (fraction_text r.3.0) (exponent_text r.3.1))))

plain_number : (ds : List ℕ) → NumberRest after_minus ds → IsNumber ds
plain_number ds r = (record { minus = false; whole = r.0; fraction = r.3.0; exponent = r.3.1 }, (r.2, r.3.2, r.3.3), r.4 ∙ ap (λ x. r.0 ++ x) r.3.4 ∙ sym (append_assoc r.0 (fraction_text r.3.0) (exponent_text r.3.1)))

pub zero_number : (b : ℕ) (ds : List ℕ) → b ≡ 48 → NumberRest after_zero ds → IsNumber (b ∷ ds)
zero_number b ds e r = plain_number (b ∷ ds) (whole_zero b ds e r)

pub digit_number : (b : ℕ) (ds : List ℕ) → (b == 48) ≡ false → is_ascii_digit b ≡ true → NumberRest in_whole ds → IsNumber (b ∷ ds)
digit_number b ds e d r = plain_number (b ∷ ds) (whole_begun b ds e (digit_back b d) r)
