-- The digits at the front of a text.
use Rattle.std.proofs.Common.{◌≡◌, ℕ, suc, ◌≤◌, ◌<◌, List, [], ◌∷◌, length, take, refl, Bool, true, false, arith, if◌then◌else◌}
use Rattle.std.specs.Char.{is_ascii_digit, digit_value}
use Rattle.std.specs.Str.Parse.{AllDigits}
use Rattle.plain_laws.proofs.Digits.{digit_back}
use Rattle.text_spec.specs.StampReader.{digit_run}

run_step :
    (c : ℕ) (xs : List ℕ) (b : Bool) → (b ≡ true → digit_value c < 10) → AllDigits 10 (take (digit_run xs) xs)
    → AllDigits 10 (take (if b then suc (digit_run xs) else 0) (c ∷ xs))
run_step c xs true h all = (h refl, all)
run_step c xs false h all = tt

-- what stands there are digits
pub digit_run_digits : (xs : List ℕ) → AllDigits 10 (take (digit_run xs) xs)
digit_run_digits [] = tt
digit_run_digits (x ∷ xs) = run_step x xs (is_ascii_digit x) (digit_back x) (digit_run_digits xs)

run_size : (xs : List ℕ) (b : Bool) → digit_run xs ≤ length xs → (if b then suc (digit_run xs) else 0) ≤ suc (length xs)
run_size xs true h = omega arith
run_size xs false h = omega arith

pub digit_run_within : (xs : List ℕ) → digit_run xs ≤ length xs
digit_run_within [] = omega arith
digit_run_within (x ∷ xs) = run_size xs (is_ascii_digit x) (digit_run_within xs)
