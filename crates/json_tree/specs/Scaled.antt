-- The absolute value of a number in units of 10^-18.
use Rattle.std.specs.Prelude.{◌≡◌, ◌⊎◌, ℕ, ◌+◌, ◌*◌, ◌/◌, ◌%◌, ◌^◌, ◌<◌, ◌≤◌, List, [], Bool, false, ◌&&◌, ◌==◌, nat_lt, if◌then◌else◌, Option, Some, None, MatchOption}
use Rattle.text_spec.specs.Number.{Exponent, is_negative}

abbrev pub if_small : ℕ → Option ℕ
if_small n = if nat_lt n (10 ^ 37) then Some n else None

-- n * 10^up / 10^down in those units, if the division is exact and the result is below 10^37
unfoldable pub scaled_size : ℕ → ℕ → ℕ → Option ℕ
scaled_size n up down =
    if (n * 10 ^ (up + 18) % 10 ^ down == 0) && nat_lt (n * 10 ^ (up + 18) / 10 ^ down) (10 ^ 37)
    then Some (n * 10 ^ (up + 18) / 10 ^ down) else None

-- ---- the exponent, if there is one

abbrev pub exponent_digits : Option Exponent → List ℕ
exponent_digits None = []
exponent_digits (Some e) = e.digits

abbrev pub is_lowered : Option Exponent → Bool
is_lowered None = false
is_lowered (Some e) = is_negative e

-- ---- the number n without `zeros` zeros at its end: what is left is 0 or no multiple of ten, and `value` holds it if it is
-- below 10^37
pub record IsCut (n : ℕ) (value : Option ℕ) (zeros : ℕ) : Type 0 where
  pub left : ℕ
  pub number_is : n ≡ left * 10 ^ zeros
  pub odd : (left ≡ 0) ⊎ ¬ (left % 10 ≡ 0)
  pub written : MatchOption value (10 ^ 37 ≤ left) (λ v. (v ≡ left) × (v < 10 ^ 37))
