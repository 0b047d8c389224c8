-- Digits without the zeros at their end.
use Rattle.std.proofs.Common.{◌≡◌, ◌∙◌, ℕ, suc, ◌+◌, ◌-◌, ◌*◌, ◌^◌, ◌<◌, ◌≤◌, ◌==◌, List, [], ◌∷◌, length, Bool, true, false, if◌then◌else◌, arith, refl, sym, ap, pow-suc}
use Rattle.std.specs.Char.{digit_value}
use Rattle.std.specs.Str.Parse.{digits_value, digits_value_after, AllDigits}
use Rattle.dump_spec.specs.text_spec.Stamp.{IsFraction, fraction_nanos, digits_text}
use Rattle.dump_spec.specs.Stamps.{digit_before, without_zeros, if_some, short_fraction}
use Rattle.dump_spec.proofs.of_text_laws.StampDigits.{length-digits_text, AllDigits-digits_text, digits_value-digits_text}

-- what these digits say of the others: no more of them, digits, and the same number but for zeros behind it
pub record IsFront (ds ws : List ℕ) : Type 0 where
  pub fewer : length ws ≤ length ds
  pub digits : AllDigits 10 ds → AllDigits 10 ws
  pub value : (n : ℕ) → digits_value_after 10 n ds ≡ digits_value_after 10 n ws * 10 ^ (length ds - length ws)

zero_digit : (d : ℕ) → (d == 48) ≡ true → digit_value d ≡ 0
zero_digit d h = grind arith

scaled : (n v k : ℕ) → v ≡ 0 → (n * 10 + v) * 10 ^ k ≡ n * 10 ^ suc k
scaled n v k e = let power : 10 ^ suc k ≡ 10 ^ k * 10 = pow-suc 10 k in rw (e, power) (scaled_by n (10 ^ k))
  where
    scaled_by : (n p : ℕ) → (n * 10 + 0) * p ≡ n * (p * 10)
    scaled_by n p = grind arith

minus_none : (k : ℕ) → k - 0 ≡ k
minus_none k = omega arith

times_one : (n : ℕ) → n ≡ n * 1
times_one n = omega arith

none_left : (d : ℕ) (ds : List ℕ) (b : Bool) → (d == 48) ≡ b → IsFront ds [] → IsFront (d ∷ ds) (if b then [] else d ∷ [])
none_left d ds true e h = record {
  fewer = omega arith;
  digits = λ all. tt;
  value = λ n. h.value (n * 10 + digit_value d)
      ∙ ap (λ k. (n * 10 + digit_value d) * 10 ^ k) (minus_none (length ds))
      ∙ scaled n (digit_value d) (length ds) (zero_digit d e)
      ∙ ap (λ k. n * 10 ^ k) (sym (minus_none (suc (length ds))));
}
none_left d ds false e h = record {
  fewer = omega arith;
  digits = λ all. (all.0, tt);
  value = λ n. h.value (n * 10 + digit_value d) ∙ ap (λ k. (n * 10 + digit_value d) * 10 ^ k) (same (length ds));
}
  where
    same : (k : ℕ) → k - 0 ≡ suc k - 1
    same k = omega arith

some_left : (d : ℕ) (ds ws : List ℕ) → IsFront ds ws → IsFront (d ∷ ds) (d ∷ ws)
some_left d ds ws h = record {
  fewer = (let few = h.fewer in omega (arith, few));
  digits = λ all. (all.0, h.digits all.1);
  value = λ n. h.value (n * 10 + digit_value d) ∙ ap (λ k. digits_value_after 10 (n * 10 + digit_value d) ws * 10 ^ k) (same (length ds) (length ws));
}
  where
    same : (k l : ℕ) → k - l ≡ suc k - suc l
    same k l = omega arith

front_step : (d : ℕ) (ds ws : List ℕ) → IsFront ds ws → IsFront (d ∷ ds) (digit_before d ws)
front_step d ds [] h = none_left d ds (d == 48) refl h
front_step d ds (w ∷ ws) h = some_left d ds (w ∷ ws) h

pub is_front : (ds : List ℕ) → IsFront ds (without_zeros ds)
is_front [] = record { fewer = omega arith; digits = λ all. tt; value = λ n. times_one n }
is_front (d ∷ ds) = front_step d ds (without_zeros ds) (is_front ds)

-- ---- a fraction

fraction_is : (nanos : ℕ) (ds ws : List ℕ) → length ds ≡ 9 → AllDigits 10 ds → digits_value 10 ds ≡ nanos → IsFront ds ws → IsFraction (if_some ws) × (fraction_nanos (if_some ws) ≡ nanos)
fraction_is nanos ds [] long all value h = (tt, (let none : digits_value_after 10 0 ds ≡ 0 * 10 ^ (length ds - 0) = h.value 0 in zero_is (digits_value_after 10 0 ds) nanos (10 ^ (length ds - 0)) none value))
  where
    zero_is : (v n p : ℕ) → v ≡ 0 * p → v ≡ n → 0 ≡ n
    zero_is v n p e f = grind arith
fraction_is nanos ds (w ∷ ws) long all value h = (
  (omega arith, (let few = h.fewer in omega (arith, few, long)), h.digits all),
  ap (λ k. digits_value 10 (w ∷ ws) * 10 ^ (k - length (w ∷ ws))) (sym long) ∙ sym (h.value 0) ∙ value,
)

pub short_fraction_is : (nanos : ℕ) → nanos < 10 ^ 9 → IsFraction (short_fraction nanos) × (fraction_nanos (short_fraction nanos) ≡ nanos)
short_fraction_is nanos few =
    fraction_is nanos (digits_text 9 nanos) (without_zeros (digits_text 9 nanos)) (length-digits_text 9 nanos) (AllDigits-digits_text 9 nanos) (digits_value-digits_text 9 nanos few)
    (is_front (digits_text 9 nanos))
