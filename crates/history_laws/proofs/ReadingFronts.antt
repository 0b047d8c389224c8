-- What is read at the front of the bytes stands there, and what stands there is read: words, numbers, lines, payloads.
use Rattle.std.proofs.Common.{◌≡◌, ◌≢◌, ◌∙◌, ℕ, zero, suc, ◌<◌, ◌≤◌, ◌^◌, List, [], ◌∷◌, ◌++◌, length, take, drop, get_or, arith, refl, sym, ap, Bool, true, false, not, ◌&&◌, ◌||◌, ◌==◌, eqb, nat_le, if◌then◌else◌, Some, None, length-append}
use Rattle.std.specs.Prelude.{decimal}
use Rattle.std.specs.Char.{is_ascii_digit}
use Rattle.std.specs.Str.Parse.{digits_value, AllDigits}
use Rattle.std.specs.List.{AllByRecursion}
use Rattle.std.proofs.lemmas.Fmt.{decimal_is_IsNumeral, first_decimal, length-decimal-le, decimal_digit, decimal-digits_value}
use Rattle.std.proofs.lemmas.List.{length-take-le, take-append-drop}
use Rattle.std.proofs.lemmas.Int.Digits.{digits_value-lt}
use Rattle.std.proofs.Math.Nat.{pow-le-pow_right}
use Rattle.std.proofs.lemmas.Str.Parse.{IsNumeralModel, numerals_by_value, tells_digits}
use Rattle.spool_spec.proofs.of_plain_laws.Booleans.{eqb-refl}
use Rattle.spool_spec.proofs.of_plain_laws.Digits.{digit_is}
use Rattle.spool_spec.proofs.of_plain_laws.Lists.{take-whole, drop-whole}
use Rattle.spool_spec.proofs.of_plain_laws.Options.{none_some, when}
use Rattle.spool_spec.proofs.of_text_spec.DigitRuns.{digit_run_digits}
use Rattle.spool_spec.proofs.of_text_spec.Fronts.{bound}
use Rattle.spool_spec.specs.text_spec.StampReader.{◌>>=◌, one_of, digit_run}
use Rattle.history_laws.specs.Reading.{after_word, number_of_digits, number_at, bytes_at, line_at}

-- ---- words

pub after_word-append : (p r : List ℕ) → after_word p (p ++ r) ≡ Some r
after_word-append [] r = refl
after_word-append (a ∷ p) r = rw (eqb-refl a) (after_word-append p r)

word_step : (b : Bool) (a x : ℕ) (p xs r : List ℕ) → eqb a x ≡ b → (if b then after_word p xs else None) ≡ Some r → (after_word p xs ≡ Some r → xs ≡ p ++ r) → x ∷ xs ≡ a ∷ (p ++ r)
word_step true a x p xs r e h next = let same : x ≡ a = grind arith in λ i. same i ∷ next h i
word_step false a x p xs r e h next = none_some r h

pub after_word-is : (p xs r : List ℕ) → after_word p xs ≡ Some r → xs ≡ p ++ r
after_word-is [] xs r h = cc
after_word-is (a ∷ p) [] r h = none_some r h
after_word-is (a ∷ p) (x ∷ xs) r h = word_step (eqb a x) a x p xs r refl h (after_word-is p xs r)

-- ---- one byte

pub one_of-byte : (c : ℕ) (r : List ℕ) → one_of c c (c ∷ r) ≡ Some r
unfolding one_of
one_of-byte c r = rw (eqb-refl c) refl

-- ---- numbers

-- a run of digits ends before a byte that is none
digit_run-append : (ds : List ℕ) (c : ℕ) (r : List ℕ) → is_ascii_digit c ≡ false → AllDigits 10 ds → digit_run (ds ++ c ∷ r) ≡ length ds
digit_run-append [] c r other h = rw other refl
digit_run-append (d ∷ ds) c r other h = rw (digit_is d h.0) (ap suc (digit_run-append ds c r other h.1))

leading : (n : ℕ) → n < 2 ^ 64 → get_or (decimal n) 0 0 ≡ 48 → length (decimal n) ≡ 1
leading zero small h = ap length (decimal_digit 0 (omega arith))
leading (suc n) small h = let above = first_decimal (suc n) (omega arith) small in absurd (omega (arith, above, h))

number_ok : (ds r : List ℕ) (n : ℕ) → 0 < length ds → length ds ≤ 10 → (get_or ds 0 0 ≡ 48 → length ds ≡ 1) → digits_value 10 ds ≡ n → number_of_digits ds r ≡ Some (n, r)
number_ok ds r n some few lead value = grind arith

number_of_decimal : (n : ℕ) (r : List ℕ) → n < 10 ^ 10 → number_of_digits (decimal n) r ≡ Some (n, r)
number_of_decimal n r small =
    let numeral = decimal_is_IsNumeral n (omega arith) in
    number_ok (decimal n) r n numeral.0.0 (length-decimal-le 10 n (omega arith) small (omega arith)) (leading n (omega arith)) numeral.1

pub number_at-decimal : (n c : ℕ) (r : List ℕ) → is_ascii_digit c ≡ false → n < 10 ^ 10 → number_at (decimal n ++ c ∷ r) ≡ Some (n, c ∷ r)
number_at-decimal n c r other small =
    let numeral = decimal_is_IsNumeral n (omega arith) in
    let run : digit_run (decimal n ++ c ∷ r) ≡ length (decimal n) = digit_run-append (decimal n) c r other numeral.0.1 in
    rw (run, take-whole (decimal n) (c ∷ r), drop-whole (decimal n) (c ∷ r)) (number_of_decimal n (c ∷ r) small)

own : IsNumeralModel (AllDigits 10) (digits_value 10)
own = numerals_by_value (AllDigits 10) tells_digits

pub number_at-is : (text : List ℕ) (q : ℕ × List ℕ) → number_at text ≡ Some q → text ≡ decimal q.0 ++ q.1
number_at-is text q h =
    let ds = take (digit_run text) text in
    let w = when (nat_le 1 (length ds) && nat_le (length ds) 10 && (not (get_or ds 0 0 == 48) || (length ds == 1))) (digits_value 10 ds, drop (digit_run text) text) q h in
    let some : 0 < length ds = grind arith in
    let few : length ds ≤ 10 = grind arith in
    let lead : get_or ds 0 0 ≡ 48 → length ds ≡ 1 = λ zero_first. grind arith in
    let below : digits_value 10 ds < 10 ^ length ds = digits_value-lt 10 ds (digit_run_digits text) in
    let limit : 10 ^ length ds ≤ 10 ^ 10 = pow-le-pow_right (omega arith) few in
    let number : digits_value 10 ds ≡ q.0 = ap (λ p. p.0) w.1 in
    let back : drop (digit_run text) text ≡ q.1 = ap (λ p. p.1) w.1 in
    let spelt : decimal q.0 ≡ ds = ap decimal (sym number) ∙ decimal-digits_value own ds (digit_run_digits text) some lead (omega (arith, below, limit)) in
    sym (take-append-drop (digit_run text) text) ∙ (λ i. sym spelt i ++ back i)

-- ---- so many bytes

pub bytes_at-append : (xs r : List ℕ) → bytes_at (length xs) (xs ++ r) ≡ Some (xs, r)
bytes_at-append xs r =
    let fits : nat_le (length xs) (length (xs ++ r)) ≡ true = grind (arith, length-append xs r) in
    rw (fits, take-whole xs r, drop-whole xs r) refl

pub bytes_at-is : (n : ℕ) (xs : List ℕ) (q : List ℕ × List ℕ) → bytes_at n xs ≡ Some q → (length q.0 ≡ n) × (xs ≡ q.0 ++ q.1)
bytes_at-is n xs q h =
    let w = when (nat_le n (length xs)) (take n xs, drop n xs) q h in
    let fits : n ≤ length xs = grind arith in
    let front : take n xs ≡ q.0 = ap (λ p. p.0) w.1 in
    let back : drop n xs ≡ q.1 = ap (λ p. p.1) w.1 in
    (ap length (sym front) ∙ length-take-le n xs fits, sym (take-append-drop n xs) ∙ (λ i. front i ++ back i))

-- ---- lines

pub line_at-append : (line r : List ℕ) → AllByRecursion (λ c. c ≢ 10) line → line_at (line ++ 10 ∷ r) ≡ Some (line, r)
line_at-append [] r h = refl
line_at-append (c ∷ line) r h =
    let other : eqb c 10 ≡ false = grind (arith, h.0) in
    rw (other, line_at-append line r h.1) refl

line_step : (b : Bool) (x : ℕ) (xs : List ℕ) (q : List ℕ × List ℕ) → eqb x 10 ≡ b → (if b then Some ([], xs) else (line_at xs >>= (λ line. Some (x ∷ line.0, line.1)))) ≡ Some q → ((p : List ℕ × List ℕ) → line_at xs ≡ Some p → xs ≡ p.0 ++ 10 ∷ p.1) → x ∷ xs ≡ q.0 ++ 10 ∷ q.1
line_step true x xs q e h next =
    let feed : x ≡ 10 = grind arith in
    let found : ([], xs) ≡ q = cc in
    (λ i. feed i ∷ xs) ∙ ap (λ (p : List ℕ × List ℕ). p.0 ++ 10 ∷ p.1) found
line_step false x xs q e h next =
    let a = bound (line_at xs) _ q h in
    let found : (x ∷ a.0.0, a.0.1) ≡ q = cc in
    ap (λ ys. x ∷ ys) (next a.0 a.1) ∙ ap (λ (p : List ℕ × List ℕ). p.0 ++ 10 ∷ p.1) found

pub line_at-is : (xs : List ℕ) (q : List ℕ × List ℕ) → line_at xs ≡ Some q → xs ≡ q.0 ++ 10 ∷ q.1
line_at-is [] q h = none_some q h
line_at-is (x ∷ xs) q h = line_step (eqb x 10) x xs q refl h (line_at-is xs)
