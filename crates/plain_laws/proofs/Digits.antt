-- Digits in ASCII, and numbers of so many digits.
use Rattle.std.proofs.Common.{◌≡◌, ℕ, ◌+◌, ◌%◌, ◌^◌, ◌<◌, ◌≤◌, true, false, ◌||◌, ◌==◌, arith, rules}
use Rattle.std.specs.Char.{is_ascii_digit, digit_value}
use Rattle.std.specs.List.{list_all}
use Rattle.std.specs.Str.Parse.{digits_value}
use Rattle.std.proofs.lemmas.Str.Parse.{IsNumeralModel, numerals_by_value}
use Rattle.std.proofs.Math.Nat.{pow-le-pow_right}

pub digit_is : (c : ℕ) → digit_value c < 10 → is_ascii_digit c ≡ true
digit_is c h = grind arith

pub digit_back : (c : ℕ) → is_ascii_digit c ≡ true → digit_value c < 10
digit_back c h = grind arith

pub digit_no_sign : (c : ℕ) → is_ascii_digit c ≡ true → (c == 43) || (c == 45) ≡ false
digit_no_sign c h = grind arith

pub digit_no_minus : (c : ℕ) → is_ascii_digit c ≡ true → (c == 45) ≡ false
digit_no_minus c h = grind arith

-- texts of ASCII digits are numerals, of the value of their digits
pub numerals : IsNumeralModel (λ ds. list_all is_ascii_digit ds ≡ true) (digits_value 10)
numerals = numerals_by_value (λ ds. list_all is_ascii_digit ds ≡ true) (search rules)

-- the digit of the last place
pub last_digit : (n : ℕ) → digit_value (48 + n % 10) ≡ n % 10
last_digit n = grind arith

-- a number of i digits has at most n of them, where i is at most n
pub under_power : (v i n : ℕ) → v < 10 ^ i → i ≤ n → v < 10 ^ n
under_power v i n bound le =
    let h : 10 ^ i ≤ 10 ^ n = pow-le-pow_right (omega arith) le in
    omega (arith, h)
