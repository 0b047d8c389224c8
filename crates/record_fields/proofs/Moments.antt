-- Moments: those that some stamp names.
use Rattle.std.proofs.Common.{◌≡◌, ℕ, ◌+◌, ◌*◌, ◌^◌, ◌%◌, ◌/◌, ◌<◌, Bool, true, false, cond, ◌&&◌, T, ℤ, pos, negsuc, int_le, FitsSigned, List, ◌++◌, Some, None, refl, sym, ap, subst, ◌∙◌, append_assoc, arith}
use Rattle.std.specs.Int.{w64, w128, to_le_bytes, cast_unsigned, cast_signed}
use Rattle.std.proofs.lemmas.Int.{ints, to_z-of_z, of_z-to_z}
use Rattle.record_spec.proofs.of_plain_laws.Booleans.{both_true}
use Rattle.record_spec.specs.stamp_time.Range.{IsStampMoment, first_stamp, last_stamp}
use Rattle.record_spec.proofs.of_stamp_time.RangeLaws.{stamp_in_range, has_stamp}
use Rattle.record_spec.specs.history_spec.Lawful.{HasStamp}
use Rattle.record_spec.specs.Parts.{moment_text}
use Rattle.record_fields.specs.Reading.{◌>>=◌, number_at, is_stamp_moment, moment_at}
use Rattle.record_fields.proofs.Fields.{IsBytes, bind_some, test_some, some_is, Takes, Takes-then, IsField}
use Rattle.record_fields.proofs.Parts.{number64}

halves : (low high : ℕ) → low < 2 ^ 64 → ((high * 2 ^ 64 + low) % 2 ^ 64 ≡ low) × ((high * 2 ^ 64 + low) / 2 ^ 64 ≡ high)
halves low high lt = (omega arith, omega arith)

whole : (n : ℕ) → n / 2 ^ 64 * 2 ^ 64 + n % 2 ^ 64 ≡ n
whole n = omega arith

holds : (b : Bool) → b ≡ true → T b
holds b e = subst T (sym e) tt

held : (b : Bool) → T b → b ≡ true
held true t = refl
held false t = absurd t

is_moment : (m : ℤ) → is_stamp_moment m ≡ true → IsStampMoment m
is_moment m h =
    let two = both_true (int_le first_stamp m) (int_le m last_stamp) h in
    (record { le = holds (int_le first_stamp m) two.0 }, record { le = holds (int_le m last_stamp) two.1 })

moment_is : (m : ℤ) → IsStampMoment m → is_stamp_moment m ≡ true
moment_is m h = λ i. held (int_le first_stamp m) h.0.le i && held (int_le m last_stamp) h.1.le i

number_of_is : (m : ℤ) → IsStampMoment m → (cast_unsigned w128 m < 2 ^ 128) × (cast_signed w128 (cast_unsigned w128 m) ≡ m)
number_of_is (pos n) h =
    let small : n < 2 ^ 127 = omega (arith, ints, h.1) in
    let fits : FitsSigned w128 (pos n) = record { sfits = small } in
    (omega (arith, small), to_z-of_z w128 (pos n) fits)
number_of_is (negsuc n) h =
    let small : n < 2 ^ 127 = omega (arith, ints, h.0) in
    let fits : FitsSigned w128 (negsuc n) = record { sfits = small } in
    (omega (arith, small), to_z-of_z w128 (negsuc n) fits)

moment_takes : (bytes : List ℕ) (x : ℤ) (rest : List ℕ) → IsBytes bytes → moment_at bytes ≡ Some (x, rest) → Takes bytes (moment_text x) rest × HasStamp x
unfolding moment_at moment_text
moment_takes bytes x rest are e =
    let a = bind_some (number_at w64 bytes) (λ low. number_at w64 low.1 >>= λ high. cond (is_stamp_moment (cast_signed w128 (high.0 * 2 ^ 64 + low.0))) (Some (cast_signed w128 (high.0 * 2 ^ 64 + low.0), high.1)) None) (x, rest) e in
    let b = bind_some (number_at w64 a.0.1) (λ high. cond (is_stamp_moment (cast_signed w128 (high.0 * 2 ^ 64 + a.0.0))) (Some (cast_signed w128 (high.0 * 2 ^ 64 + a.0.0), high.1)) None) (x, rest) a.2 in
    let n = b.0.0 * 2 ^ 64 + a.0.0 in
    let g = test_some (is_stamp_moment (cast_signed w128 n)) (Some (cast_signed w128 n, b.0.1)) (x, rest) b.2 in
    let s = number64.takes bytes a.0.0 a.0.1 are a.1 in
    let t = number64.takes a.0.1 b.0.0 b.0.1 s.0.rest_fits b.1 in
    let both = Takes-then bytes (to_le_bytes w64 a.0.0) a.0.1 (to_le_bytes w64 b.0.0) b.0.1 s.0 t.0 in
    let low_lt : a.0.0 < 2 ^ 64 = s.1 in
    let high_lt : b.0.0 < 2 ^ 64 = t.1 in
    let h = halves a.0.0 b.0.0 low_lt in
    let small : n < 2 ^ 128 = omega (arith, low_lt, high_lt) in
    let back : cast_unsigned w128 (cast_signed w128 n) ≡ n = of_z-to_z w128 n small in
    let low_is : cast_unsigned w128 (cast_signed w128 n) % 2 ^ 64 ≡ a.0.0 = ap (λ (k : ℕ). k % 2 ^ 64) back ∙ h.0 in
    let high_is : cast_unsigned w128 (cast_signed w128 n) / 2 ^ 64 ≡ b.0.0 = ap (λ (k : ℕ). k / 2 ^ 64) back ∙ h.1 in
    let text_is : moment_text (cast_signed w128 n) ≡ to_le_bytes w64 a.0.0 ++ to_le_bytes w64 b.0.0 = λ i. to_le_bytes w64 (low_is i) ++ to_le_bytes w64 (high_is i) in
    let made : Takes bytes (moment_text (cast_signed w128 n)) b.0.1 = record { parts = both.parts ∙ ap (λ (l : List ℕ). l ++ b.0.1) (sym text_is); rest_fits = both.rest_fits } in
    let named : HasStamp (cast_signed w128 n) = has_stamp (cast_signed w128 n) (is_moment (cast_signed w128 n) g.0) in
    subst (λ (p : ℤ × List ℕ). Takes bytes (moment_text p.0) p.1 × HasStamp p.0) (some_is (cast_signed w128 n, b.0.1) (x, rest) g.1) (made, named)

moment_again : (x : ℤ) (rest : List ℕ) → HasStamp x → moment_at (moment_text x ++ rest) ≡ Some (x, rest)
unfolding moment_at moment_text
moment_again x rest named =
    let fits = stamp_in_range named.0 x named.1 in
    let u = number_of_is x fits in
    let low : ℕ = cast_unsigned w128 x % 2 ^ 64 in
    let high : ℕ = cast_unsigned w128 x / 2 ^ 64 in
    let high_lt : high < 2 ^ 64 = omega (arith, u.0) in
    let low_lt : low < 2 ^ 64 = omega arith in
    let n_is : cast_signed w128 (high * 2 ^ 64 + low) ≡ x = ap (cast_signed w128) (whole (cast_unsigned w128 x)) ∙ u.1 in
    let regrouped : moment_text x ++ rest ≡ to_le_bytes w64 low ++ (to_le_bytes w64 high ++ rest) = append_assoc (to_le_bytes w64 low) (to_le_bytes w64 high) rest in
    ap moment_at regrouped ∙ rw (number64.again low (to_le_bytes w64 high ++ rest) low_lt, number64.again high rest high_lt, n_is, moment_is x fits) refl

pub moments : IsField moment_text moment_at HasStamp
moments = record { takes = moment_takes; again = moment_again }

-- as the code writes a moment
pub moment_spelled : (old mid new : List ℕ) (n : ℕ) (m : ℤ) → n ≡ cast_unsigned w128 m → mid ≡ old ++ to_le_bytes w64 (n % 2 ^ 64) → new ≡ mid ++ to_le_bytes w64 (n / 2 ^ 64) → new ≡ old ++ moment_text m
unfolding moment_text
moment_spelled old mid new n m is first second =
    second ∙ ap (λ (x : List ℕ). x ++ to_le_bytes w64 (n / 2 ^ 64)) first ∙ append_assoc old (to_le_bytes w64 (n % 2 ^ 64)) (to_le_bytes w64 (n / 2 ^ 64))
    ∙ (λ i. old ++ (to_le_bytes w64 (is i % 2 ^ 64) ++ to_le_bytes w64 (is i / 2 ^ 64)))
