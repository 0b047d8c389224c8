-- The last digits of a number, as text.
use Rattle.std.proofs.Common.{◌≡◌, ◌∙◌, ℕ, zero, suc, ◌+◌, ◌*◌, ◌/◌, ◌%◌, ◌^◌, ◌<◌, List, [], ◌∷◌, ◌++◌, length, take, arith, refl, ap, sym, append_assoc, length-append, add-zero, pow-suc}
use Rattle.std.specs.Char.{digit_value}
use Rattle.std.specs.Str.Parse.{digits_value, AllDigits}
use Rattle.std.proofs.lemmas.Int.Digits.{digits_value_push}
use Rattle.std.proofs.Math.Seq.{take-append_seam}
use Rattle.std.proofs.lemmas.List.{append-nil}
use Rattle.json_machine.proofs.of_plain_laws.Digits.{last_digit}
use Rattle.json_machine.specs.text_spec.Stamp.{digits_text}

pub length-digits_text : (width n : ℕ) → length (digits_text width n) ≡ width
length-digits_text zero n = refl
length-digits_text (suc width) n = omega (arith, length-append (digits_text width (n / 10)) ((48 + n % 10) ∷ []), length-digits_text width (n / 10))

AllDigits-push : (ds : List ℕ) (c : ℕ) → AllDigits 10 ds → digit_value c < 10 → AllDigits 10 (ds ++ c ∷ [])
AllDigits-push [] c h k = (k, tt)
AllDigits-push (d ∷ ds) c h k = (h.0, AllDigits-push ds c h.1 k)

digit_value-digit : (n : ℕ) → n < 10 → digit_value (48 + n) ≡ n
digit_value-digit n h = grind arith

pub AllDigits-digits_text : (width n : ℕ) → AllDigits 10 (digits_text width n)
AllDigits-digits_text zero n = tt
AllDigits-digits_text (suc width) n = AllDigits-push (digits_text width (n / 10)) (48 + n % 10) (AllDigits-digits_text width (n / 10)) (omega (arith, last_digit n))

-- a number that so many digits can write is what they write
pub digits_value-digits_text : (width n : ℕ) → n < 10 ^ width → digits_value 10 (digits_text width n) ≡ n
digits_value-digits_text zero n h = omega arith
digits_value-digits_text (suc width) n h =
    let power : 10 ^ suc width ≡ 10 ^ width * 10 = pow-suc 10 width in
    let fewer : n / 10 < 10 ^ width = omega (arith, power, h) in
    omega (arith, digits_value_push 10 (digits_text width (n / 10)) (48 + n % 10), digits_value-digits_text width (n / 10) fewer, last_digit n)

-- n without its last k digits
abbrev pub front : ℕ → ℕ → ℕ
front zero n = n
front (suc k) n = front k (n / 10)

-- the number that the last k digits write
abbrev pub back : ℕ → ℕ → ℕ
back zero n = 0
back (suc k) n = back k (n / 10) * 10 + n % 10

pub front-back : (k n : ℕ) → n ≡ front k n * 10 ^ k + back k n
front-back zero n = omega arith
front-back (suc k) n = rw pow-suc (omega (arith, front-back k (n / 10)))

pub back_bound : (k n : ℕ) → back k n < 10 ^ k
back_bound zero n = omega arith
back_bound (suc k) n = omega (arith, pow-suc 10 k, back_bound k (n / 10))

-- the digits of the front, and then the last k
pub digits_text-front : (width k all n : ℕ) → all ≡ width + k → digits_text all n ≡ digits_text width (front k n) ++ digits_text k n
digits_text-front width zero all n e = rw (e, add-zero width) (sym (append-nil (digits_text width n)))
digits_text-front width (suc k) all n e =
    let more : all ≡ suc (width + k) = omega arith in
    rw more (ap (λ ds. ds ++ (48 + n % 10) ∷ []) (digits_text-front width k (width + k) (n / 10) refl) ∙ append_assoc (digits_text width (front k (n / 10))) (digits_text k (n / 10)) ((48 + n % 10) ∷ []))

pub take-digits_text : (width k all n : ℕ) → all ≡ width + k → take width (digits_text all n) ≡ digits_text width (front k n)
take-digits_text width k all n e =
    let ds = digits_text width (front k n) in
    let first : take (length ds) (ds ++ digits_text k n) ≡ ds = take-append_seam ds (digits_text k n) in
    let size : length ds ≡ width = length-digits_text width (front k n) in
    rw (digits_text-front width k all n e) (rw size at first)
