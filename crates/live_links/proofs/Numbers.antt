-- Numbers in decimal are texts.
use Rattle.std.proofs.Common.{ℕ, zero, suc, ◌<◌, ◌^◌, List, [], ◌∷◌, arith}
use Rattle.std.specs.Prelude.{decimal}
use Rattle.std.specs.Char.{digit_value}
use Rattle.std.specs.Str.{IsUtf8, IsAscii}
use Rattle.std.specs.Str.Parse.{AllDigits}
use Rattle.std.proofs.lemmas.Fmt.{decimal_is_IsNumeral}
use Rattle.std.proofs.lemmas.Str.{IsUtf8-from_ascii}

digit_is_small : (c : ℕ) → digit_value c < 10 → c < 128
digit_is_small c h = grind arith

digits_are_ascii : (ds : List ℕ) → AllDigits 10 ds → IsAscii ds
digits_are_ascii [] h i = omega arith
digits_are_ascii (c ∷ cs) h zero = digit_is_small c h.0
digits_are_ascii (c ∷ cs) h (suc i) = digits_are_ascii cs h.1 i

pub decimal_is_text : (n : ℕ) → n < 2 ^ 64 → IsUtf8 (decimal n)
decimal_is_text n small = IsUtf8-from_ascii (decimal n) (digits_are_ascii (decimal n) (decimal_is_IsNumeral n small).0.1)
