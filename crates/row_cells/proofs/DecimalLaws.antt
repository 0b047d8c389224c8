-- A whole number in decimal is a number of JSON.
use Rattle.std.proofs.Common.{◌≡◌, ℕ, zero, suc, ◌<◌, ◌^◌, List, [], ◌∷◌, refl, sym, subst, false, None, arith, decimal}
use Rattle.std.specs.Fmt.{digits}
use Rattle.std.proofs.lemmas.Fmt.{decimal_is_IsNumeral, first_decimal}
use Rattle.std.proofs.lemmas.List.{append-nil}
use Rattle.table_spec.specs.text_spec.Number.{IsNumber, IsWhole}
use Rattle.table_spec.proofs.of_text_spec.NumberParts.{whole_numeral}

zero_is_whole : IsWhole (48 ∷ [])
zero_is_whole = ((omega arith, tt), λ e. refl)

number : (ds : List ℕ) → IsWhole ds → IsNumber ds
number ds h = (record { minus = false; whole = ds; fraction = None; exponent = None }, (h, tt, tt), simp append-nil)

zero_text : decimal 0 ≡ 48 ∷ []
unfolding digits
zero_text = refl

pub decimal_is_number : (n : ℕ) → n < 2 ^ 64 → IsNumber (decimal n)
decimal_is_number zero h = subst IsNumber (sym zero_text) (number (48 ∷ []) zero_is_whole)
decimal_is_number (suc n) h =
    number (decimal (suc n)) (whole_numeral (decimal (suc n)) (decimal_is_IsNumeral (suc n) h).0 (first_decimal (suc n) (omega arith) h))
