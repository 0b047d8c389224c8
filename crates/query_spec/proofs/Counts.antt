-- Numbers of at most 19 digits fit 64 bits, so that `parse` reads each.
use Rattle.std.proofs.Common.{◌≡◌, ◌≤◌, ◌<◌, ◌^◌, ℕ, List, length, true, Result, Ok, arith}
use Rattle.std.specs.Prelude.{◌&&◌, nat_le}
use Rattle.std.specs.Char.{is_ascii_digit}
use Rattle.std.specs.List.{list_all}
use Rattle.std.specs.Str.Parse.{digits_value, ParsesUnsigned}
use Rattle.std.proofs.lemmas.Str.Parse.{digits_value_short, parse_gives}
use Rattle.std.proofs.lemmas.Bool.Decides.{nat_tests}
use Rattle.fleet_rows.proofs.of_plain_laws.Booleans.{both_true}
use Rattle.fleet_rows.proofs.of_plain_laws.Digits.{numerals}
use Rattle.query_spec.specs.Parts.{are_digits}

pub count_gives : {E : Type 0} (s : List ℕ) (r : Result ℕ E) → ParsesUnsigned 64 10 s r → are_digits s ≡ true → r ≡ Ok (digits_value 10 s)
count_gives s r h e =
    let parts = both_true (nat_le 1 (length s) && nat_le (length s) 19) (list_all is_ascii_digit s) e in
    let bounds = both_true (nat_le 1 (length s)) (nat_le (length s) 19) parts.0 in
    let some : 1 ≤ length s = grind (arith, nat_tests, bounds.0) in
    let few : length s ≤ 19 = grind (arith, nat_tests, bounds.1) in
    let small : digits_value 10 s < 10 ^ 19 = digits_value_short numerals s 19 parts.1 few in
    parse_gives numerals 64 s r h parts.1 (omega arith) (omega arith)
