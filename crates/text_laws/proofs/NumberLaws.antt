-- Laws of numbers: the parts of a spelling, its value, and how two compare.
use Rattle.std.proofs.Common.{◌≡◌, ℕ, zero, suc, ◌+◌, ◌*◌, ◌/◌, ◌%◌, ◌^◌, ◌<◌, ℤ, pos, negsuc, neg_ℤ, ◌*ℤ◌, unsigned_abs, List, Bool, true, false, ◌==◌, ◌&&◌, nat_lt, if◌then◌else◌, Option, Some, None, refl, sym, ap, ◌∙◌, arith}
use Rattle.std.proofs.Math.Nat.{one-le-pow}
use Rattle.std.proofs.lemmas.Bool.Decides.{nat_tests}
use Rattle.std.proofs.lemmas.Grind.{common_steps}
use Rattle.std.proofs.lemmas.Int.{unsigned_abs-mul}
use Rattle.std.proofs.lemmas.Nat.{div-mul-add, mod-mul-add}
use Rattle.std.proofs.lemmas.Slice.Eq.{bytes_eq-Decides}
use Rattle.std.specs.declared.cmp.Ordering.TheVariants.{Equal}
use Rattle.std.specs.Ordering.{int_cmp}
use Rattle.std.specs.Str.{bytes_eq}
use Rattle.json_machine.proofs.of_text_spec.NumberParts.{number_in_number_text}
use Rattle.json_machine.specs.text_spec.Number.{NumberText, IsNumberText, number_text, number_in, IsNumber, IsScaled, scaled, scaled_value, signed, coefficient, raised, lowered, compare, compare_scaled}
use Rattle.text_laws.specs.NumberLaws.{IsUnscaled, ComparesBySpelling, NumbersCompareByValue, ScaledIsTheValue}

pub number_text_injective : (n p : NumberText) → IsNumberText n → IsNumberText p → number_text n ≡ number_text p → n ≡ p
number_text_injective n p h k e = sym (number_in_number_text n h) ∙ ap number_in e ∙ number_in_number_text p k

-- ---- the value

abs_signed : (minus : Bool) (n : ℕ) → unsigned_abs (signed minus n) ≡ n
abs_signed false n = refl
abs_signed true zero = refl
abs_signed true (suc n) = refl

pub signed-times : (minus : Bool) (q u w : ℕ) → q * u ≡ w → signed minus q *ℤ pos u ≡ signed minus w
signed-times false q u w e = ap pos e
signed-times true zero u w e = let none : 0 * u ≡ 0 = omega arith in rw (← e, none) refl
signed-times true (suc q) u w e = ap (λ n. neg_ℤ (pos n)) e

below_zero : (n w : ℕ) → 0 < n → neg_ℤ (pos n) ≡ pos w → ⊥
below_zero zero w h e = omega arith
below_zero (suc n) w h e = cc

-- a product with a number above zero keeps the sign
sign_kept : (minus : Bool) (m : ℤ) (u w : ℕ) → 0 < u → m *ℤ pos u ≡ signed minus w → m ≡ signed minus (unsigned_abs m)
sign_kept false (pos k) u w h e = refl
sign_kept false (negsuc k) u w h e = absurd (below_zero (suc k * u) w (omega arith) e)
sign_kept true (pos zero) u w h e = refl
sign_kept true (pos (suc k)) u zero h e = absurd (below_zero (suc k * u) 0 (omega arith) (ap neg_ℤ e))
sign_kept true (pos (suc k)) u (suc w) h e = cc
sign_kept true (negsuc k) u w h e = refl

-- the whole number w, divided by u, where nothing is left over and less than 10^37 comes out
abbrev quotient : Bool → ℕ → ℕ → Option ℤ
quotient minus w u = if (w % u == 0) && nat_lt (w / u) (10 ^ 37) then Some (signed minus (w / u)) else None

quotient_is : (minus : Bool) (w u : ℕ) (m : ℤ) → 0 < u → m *ℤ pos u ≡ signed minus w → unsigned_abs m < 10 ^ 37 → quotient minus w u ≡ Some m
quotient_is minus w u m h e small =
    let k = unsigned_abs m in
    let product : w ≡ k * u + 0 = omega (arith, sym (unsigned_abs-mul m (pos u)) ∙ ap unsigned_abs e ∙ abs_signed minus w) in
    let is : w / u ≡ k = ap (λ x. x / u) product ∙ div-mul-add k u 0 h in
    let rest : w % u ≡ 0 = ap (λ x. x % u) product ∙ mod-mul-add k u 0 h in
    let less : nat_lt k (10 ^ 37) ≡ true = grind (arith, nat_tests) in
    rw (rest, is, less) (ap Some (sym (sign_kept minus m u w h e)))

module _ (minus : Bool) (w u : ℕ) (m : ℤ) (h : 0 < u) where
  divides : (a b : Bool) → (w % u == 0) ≡ a → nat_lt (w / u) (10 ^ 37) ≡ b → (if a && b then Some (signed minus (w / u)) else None) ≡ Some m → (m *ℤ pos u ≡ signed minus w) × (unsigned_abs m < 10 ^ 37)
  divides true true p q e =
      let is : signed minus (w / u) ≡ m = cc in
      let product : w / u * u ≡ w = grind (arith, nat_tests, common_steps) in
      let small : w / u < 10 ^ 37 = grind (arith, nat_tests) in
      rw (← is) (signed-times minus (w / u) u w product, rw (abs_signed minus (w / u)) small)
  divides true false p q e = cc
  divides false b p q e = cc

positive : (k : ℕ) → 0 < 10 ^ k
positive k = one-le-pow k 10 (omega arith)

pub scaled-number_text : (n : NumberText) → IsNumberText n → scaled (number_text n) ≡ scaled_value n
unfolding scaled
scaled-number_text n h = ap scaled_value (number_in_number_text n h)

pub scaled_from_IsScaled : (s : List ℕ) (m : ℤ) → IsScaled s m → scaled s ≡ Some m
scaled_from_IsScaled s m h = ap scaled h.spelt ∙ scaled-number_text h.number h.is_number ∙ quotient_is h.number.minus (coefficient h.number * 10 ^ (raised h.number + 18)) (10 ^ lowered h.number) m (positive (lowered h.number)) h.equal h.small

pub IsScaled_from_scaled : (s : List ℕ) (m : ℤ) → IsNumber s → scaled s ≡ Some m → IsScaled s m
IsScaled_from_scaled s m h e =
    let n = h.0 in
    let parts = divides n.minus (coefficient n * 10 ^ (raised n + 18)) (10 ^ lowered n) m (positive (lowered n)) _ _ refl refl (sym (scaled-number_text n h.1) ∙ ap scaled (sym h.2) ∙ e) in
    record { number = n; is_number = h.1; spelt = h.2; equal = parts.0; small = parts.1 }

pub scaled_is_the_value : ScaledIsTheValue
scaled_is_the_value s m h = (IsScaled_from_scaled s m h, scaled_from_IsScaled s m)

pub at_most_one_value : (s : List ℕ) (m n : ℤ) → IsScaled s m → IsScaled s n → m ≡ n
at_most_one_value s m n h k = let p = scaled_from_IsScaled s m h in let q = scaled_from_IsScaled s n k in cc

-- ---- comparison

pub scaled_compare : (s t : List ℕ) (m n : ℤ) → IsScaled s m → IsScaled t n → compare s t ≡ Some (int_cmp m n)
scaled_compare s t m n h k = rw (scaled_from_IsScaled s m h, scaled_from_IsScaled t n k) refl

unscaled : (s : List ℕ) (o : Option ℤ) → scaled s ≡ o → IsUnscaled s → scaled s ≡ None
unscaled s None e h = e
unscaled s (Some m) e h = absurd (h.1 m (IsScaled_from_scaled s m h.0 e))

compare_second : (o : Option ℤ) (alike : Bool) → compare_scaled o None alike ≡ (if alike then Some Equal else None)
compare_second None alike = refl
compare_second (Some m) alike = refl

apart : (s t : List ℕ) (b : Bool) → bytes_eq s t ≡ b → ¬ (s ≡ t) → b ≡ false
apart s t true e h = absurd (h ((bytes_eq-Decides s t).0 e))
apart s t false e h = refl

pub unscaled_compare : (s t : List ℕ) → IsUnscaled s → ComparesBySpelling s t
unscaled_compare s t h =
    let none = unscaled s (scaled s) refl h in (
      λ e. rw (none, (bytes_eq-Decides s t).1 e) refl,
      λ other. (rw (none, apart s t _ refl other) refl, rw none (compare_second (scaled t) (bytes_eq t s) ∙ rw (apart t s _ refl (λ e. other (sym e))) refl)),
    )

pub numbers_compare_by_value : NumbersCompareByValue
numbers_compare_by_value = record { scaled_numbers = scaled_compare; unscaled_numbers = unscaled_compare }
