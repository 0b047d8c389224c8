-- The text of a sum is a number, and spells the sum's value.
use Rattle.std.proofs.Common.{◌≡◌, ◌∙◌, ℕ, zero, suc, ◌+◌, ◌*◌, ◌/◌, ◌%◌, ◌^◌, ◌<◌, ◌≤◌, ◌==◌, ℤ, pos, negsuc, ◌*ℤ◌, int_lt, unsigned_abs, List, [], ◌∷◌, ◌++◌, length, get_or, Bool, true, false, if◌then◌else◌, Option, Some, None, refl, sym, ap, subst, arith, append_assoc, pow-suc, decimal, length-append}
use Rattle.std.specs.Char.{digit_value}
use Rattle.std.specs.Fmt.{digits}
use Rattle.std.specs.Str.Parse.{digits_value, AllDigits}
use Rattle.std.proofs.lemmas.Bool.Decides.{nat_tests}
use Rattle.std.proofs.lemmas.Fmt.{decimal_is_IsNumeral_wide, decimal_by_steps_wide}
use Rattle.std.proofs.lemmas.Int.Digits.{digits_value_push}
use Rattle.std.proofs.lemmas.List.{append-nil}
use Rattle.std.proofs.lemmas.Nat.{pow-add}
use Rattle.table_spec.proofs.of_plain_laws.Digits.{last_digit}
use Rattle.table_spec.specs.text_spec.Number.{NumberText, IsNumberText, IsWhole, number_text, coefficient, raised, lowered, signed, IsNumber}
use Rattle.table_spec.specs.text_spec.Stamp.{digits_text}
use Rattle.table_spec.proofs.of_text_spec.NumberParts.{whole_numeral}
use Rattle.text_laws.proofs.StampDigits.{length-digits_text, AllDigits-digits_text}
use Rattle.text_laws.proofs.NumberLaws.{signed-times}
use Rattle.means_spec.specs.Groups.{trimmed, decimals, scaled_text}

-- ---- digits behind others

push : (x d v p power n : ℕ) → x ≡ v * p + n / 10 → d ≡ n % 10 → power ≡ p * 10 → x * 10 + d ≡ v * power + n
push x d v p power n a b c =
    (λ i. a i * 10 + b i)
    ∙ (let e : (v * p + n / 10) * 10 + n % 10 ≡ v * (p * 10) + n = omega arith in e)
    ∙ ap (λ k. v * k + n) (sym c)

value_behind : (xs : List ℕ) (w n : ℕ) → n < 10 ^ w → digits_value 10 (xs ++ digits_text w n) ≡ digits_value 10 xs * 10 ^ w + n
value_behind xs zero n h = ap (digits_value 10) (append-nil xs) ∙ (let e : digits_value 10 xs ≡ digits_value 10 xs * 10 ^ 0 + n = omega arith in e)
value_behind xs (suc w) n h =
    let power : 10 ^ suc w ≡ 10 ^ w * 10 = pow-suc 10 w in
    let low : n / 10 < 10 ^ w = omega arith in
    ap (digits_value 10) (sym (append_assoc xs (digits_text w (n / 10)) ((48 + n % 10) ∷ [])))
    ∙ digits_value_push 10 (xs ++ digits_text w (n / 10)) (48 + n % 10)
    ∙ push (digits_value 10 (xs ++ digits_text w (n / 10))) (digit_value (48 + n % 10)) (digits_value 10 xs) (10 ^ w) (10 ^ suc w) n
    (value_behind xs w (n / 10) low) (last_digit n) power

-- what is left of w digits of n without the zeros at the end
record Trims (w n : ℕ) : Type 0 where
  width : ℕ
  rest : ℕ
  cut : ℕ
  text_is : trimmed w n ≡ digits_text width rest
  widths : w ≡ width + cut
  number_is : n ≡ rest * 10 ^ cut
  fits : rest < 10 ^ width
  some : 1 ≤ width

by_digit : (w n : ℕ) → 0 < n → n < 10 ^ suc w → (0 < n / 10 → n / 10 < 10 ^ w → Trims w (n / 10)) → (b : Bool) → (n % 10 == 0) ≡ b → Trims (suc w) n
by_digit w n h k before true e =
    let ends : n % 10 ≡ 0 = grind (arith, nat_tests) in
    let power : 10 ^ suc w ≡ 10 ^ w * 10 = pow-suc 10 w in
    let t = before (omega arith) (omega arith) in
    let more : 10 ^ suc t.cut ≡ 10 ^ t.cut * 10 = pow-suc 10 t.cut in
    record {
      width = t.width;
      rest = t.rest;
      cut = suc t.cut;
      text_is = ap (λ c. if c then trimmed w (n / 10) else digits_text (suc w) n) e ∙ t.text_is;
      widths = omega (arith, t.widths);
      number_is = (let whole : n ≡ (n / 10) * 10 = omega arith in whole) ∙ ap (λ x. x * 10) t.number_is ∙ tenfold t.rest (10 ^ t.cut) ∙ ap (λ p. t.rest * p) (sym more);
      fits = t.fits;
      some = t.some;
    }
  where
    tenfold : (f p : ℕ) → (f * p) * 10 ≡ f * (p * 10)
    tenfold f p = omega arith
by_digit w n h k before false e = record {
  width = suc w;
  rest = n;
  cut = 0;
  text_is = ap (λ c. if c then trimmed w (n / 10) else digits_text (suc w) n) e;
  widths = omega arith;
  number_is = omega arith;
  fits = k;
  some = omega arith;
}

trims : (w n : ℕ) → 0 < n → n < 10 ^ w → Trims w n
trims zero n h k = absurd (omega arith)
trims (suc w) n h k = by_digit w n h k (trims w (n / 10)) (n % 10 == 0) refl

mixed : (q p k f : ℕ) → (q * (p * k) + f * k) * p ≡ (q * p + f) * (p * k)
mixed q p k f = omega arith

-- ---- signs

sign_is : (m : ℤ) → m ≡ signed (int_lt m (pos 0)) (unsigned_abs m)
sign_is (pos n) = let e : int_lt (pos n) (pos 0) ≡ false = grind (arith, nat_tests) in ap (λ c. signed c n) (sym e)
sign_is (negsuc n) = refl

-- ---- the parts of the text

zero_text : decimal 0 ≡ 48 ∷ []
unfolding digits
zero_text = refl

-- only zero begins with one
same_first : (ds es : List ℕ) → 0 < length ds → get_or (ds ++ es) 0 0 ≡ get_or ds 0 0
same_first [] es h = absurd (omega arith)
same_first (d ∷ ds) es h = refl

first_digit : (n : ℕ) → n < 10 ^ 64 → (0 < length (decimal n)) × (0 < n → 48 < get_or (decimal n) 0 0)
first_digit =
    decimal_by_steps_wide (λ m ds. (0 < length ds) × (0 < m → 48 < get_or ds 0 0)) (λ m l. (omega arith, λ a. omega arith))
    (λ m ds l h. (omega (arith, length-append ds ((48 + m % 10) ∷ [])), λ a. omega (arith, same_first ds ((48 + m % 10) ∷ []) h.0, h.1 (omega arith))))

decimal_is_whole : (n : ℕ) → n < 10 ^ 64 → IsWhole (decimal n)
decimal_is_whole zero h = subst IsWhole (sym zero_text) ((omega arith, tt), λ e. refl)
decimal_is_whole (suc n) h =
    whole_numeral (decimal (suc n)) (decimal_is_IsNumeral_wide (suc n) h).0 ((first_digit (suc n) h).1 (omega arith))

abbrev front : Bool → List ℕ
front minus = if minus then 45 ∷ [] else []

abbrev parts : Bool → ℕ → Option (List ℕ) → NumberText
parts minus q fraction = record { minus = minus; whole = decimal q; fraction = fraction; exponent = None }

-- the decimals of r: none, or a point and what is left of eighteen digits
no_decimals : (r : ℕ) → (r == 0) ≡ true → decimals r ≡ []
no_decimals r e = ap (λ c. if c then [] else 46 ∷ trimmed 18 r) e

some_decimals : (r : ℕ) → (r == 0) ≡ false → decimals r ≡ 46 ∷ trimmed 18 r
some_decimals r e = ap (λ c. if c then [] else 46 ∷ trimmed 18 r) e

spelt_whole : (minus : Bool) (q : ℕ) (d : List ℕ) → d ≡ [] → front minus ++ decimal q ++ d ≡ number_text (parts minus q None)
spelt_whole minus q d e = ap (λ x. front minus ++ decimal q ++ x) e ∙ sym (append-nil (front minus ++ decimal q ++ []))

spelt_part : (minus : Bool) (q : ℕ) (d ds : List ℕ) → d ≡ 46 ∷ ds → front minus ++ decimal q ++ d ≡ number_text (parts minus q (Some ds))
spelt_part minus q d ds e = ap (λ x. front minus ++ decimal q ++ x) e ∙ sym (append-nil (front minus ++ decimal q ++ 46 ∷ ds))

-- the text is a number, and m / 10^18 its value
pub record Spells (spelling : List ℕ) (m : ℤ) : Type 0 where
  pub number : NumberText
  pub is_number : IsNumberText number
  pub spelt : spelling ≡ number_text number
  pub equal : m *ℤ pos (10 ^ lowered number) ≡ signed number.minus (coefficient number * 10 ^ (raised number + 18))

module _ (minus : Bool) (q r n : ℕ) (n_is : n ≡ q * 10 ^ 18 + r) (r_fits : r < 10 ^ 18) (q_fits : q < 10 ^ 64) where
  value_is : digits_value 10 (decimal q) ≡ q
  value_is = (decimal_is_IsNumeral_wide q q_fits).1

  whole_sum : (r == 0) ≡ true → Spells (front minus ++ decimal q ++ decimals r) (signed minus n)
  whole_sum e =
      let nothing : r ≡ 0 = grind (arith, nat_tests) in
      let is : digits_value 10 (decimal q ++ []) ≡ q = ap (digits_value 10) (append-nil (decimal q)) ∙ value_is in
      record {
        number = parts minus q None;
        is_number = (decimal_is_whole q q_fits, tt, tt);
        spelt = spelt_whole minus q (decimals r) (no_decimals r e);
        equal = signed-times minus n (10 ^ 0) (digits_value 10 (decimal q ++ []) * 10 ^ 18) (omega (arith, n_is, is));
      }

  scales : (w f k l v : ℕ) → l ≡ w → v ≡ q * 10 ^ w + f → 18 ≡ w + k → r ≡ f * 10 ^ k → n * 10 ^ (0 + l) ≡ v * 10 ^ 18
  scales w f k l v a b c d =
      let length_is : 10 ^ (0 + l) ≡ 10 ^ w = ap (λ x. 10 ^ x) (let e : 0 + l ≡ w = omega arith in e) in
      let power : 10 ^ 18 ≡ 10 ^ w * 10 ^ k = ap (λ x. 10 ^ x) c ∙ pow-add 10 w k in
      let number : n ≡ q * (10 ^ w * 10 ^ k) + f * 10 ^ k = n_is ∙ (λ i. q * power i + d i) in
      (λ i. number i * length_is i)
      ∙ mixed q (10 ^ w) (10 ^ k) f
      ∙ (λ i. sym b i * sym power i)

  -- with these digits behind the point
  part_of : (ds d : List ℕ) (w f k : ℕ) → d ≡ 46 ∷ ds → ds ≡ digits_text w f → 18 ≡ w + k → r ≡ f * 10 ^ k → f < 10 ^ w → 1 ≤ w → Spells (front minus ++ decimal q ++ d) (signed minus n)
  part_of ds d w f k shown text_is widths number_is fits some =
      let size : length ds ≡ w = ap length text_is ∙ length-digits_text w f in
      let is : digits_value 10 (decimal q ++ ds) ≡ q * 10 ^ w + f =
      ap (λ x. digits_value 10 (decimal q ++ x)) text_is ∙ value_behind (decimal q) w f fits
      ∙ ap (λ v. v * 10 ^ w + f) value_is in
      record {
        number = parts minus q (Some ds);
        is_number = (decimal_is_whole q q_fits, (omega (arith, size, some), subst (AllDigits 10) (sym text_is) (AllDigits-digits_text w f)), tt);
        spelt = spelt_part minus q d ds shown;
        equal = signed-times minus n (10 ^ (0 + length ds)) (digits_value 10 (decimal q ++ ds) * 10 ^ 18) (scales w f k (length ds) (digits_value 10 (decimal q ++ ds)) size is widths number_is);
      }

  part_sum : (r == 0) ≡ false → Spells (front minus ++ decimal q ++ decimals r) (signed minus n)
  part_sum e =
      let t = trims 18 r (grind (arith, nat_tests)) r_fits in
      part_of (trimmed 18 r) (decimals r) t.width t.rest t.cut (some_decimals r e) t.text_is t.widths t.number_is t.fits t.some

  sum_is : (b : Bool) → (r == 0) ≡ b → Spells (front minus ++ decimal q ++ decimals r) (signed minus n)
  sum_is true e = whole_sum e
  sum_is false e = part_sum e

pub sum_is_spelt : (m : ℤ) → unsigned_abs m < 10 ^ 64 → Spells (scaled_text m) m
sum_is_spelt m h =
    let n = unsigned_abs m in
    subst (Spells (scaled_text m)) (sym (sign_is m))
    (sum_is (int_lt m (pos 0)) (n / 10 ^ 18) (n % 10 ^ 18) n (omega arith) (omega arith) (omega arith) (n % 10 ^ 18 == 0) refl)

pub sum_is_number : (m : ℤ) → unsigned_abs m < 10 ^ 64 → IsNumber (scaled_text m)
sum_is_number m h = let s = sum_is_spelt m h in (s.number, s.is_number, s.spelt)
