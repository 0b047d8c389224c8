-- Digits without the zeros at their end, digit by digit from the end.
use Rattle.std.proofs.Common.{◌≡◌, ◌∙◌, ℕ, zero, suc, ◌-◌, ◌<◌, ◌≤◌, ◌==◌, List, [], ◌∷◌, ◌++◌, length, take, refl, subst, sym, ap, false, arith}
use Rattle.std.specs.Prelude.{slice_index}
use Rattle.dump_laws.specs.dump_spec.text_spec.Stamp.{fraction_text}
use Rattle.dump_laws.specs.dump_spec.Stamps.{digit_before, without_zeros, if_some}

-- a zero at the end says nothing
pub zero_goes : (ds : List ℕ) → without_zeros (ds ++ 48 ∷ []) ≡ without_zeros ds
zero_goes [] = refl
zero_goes (d ∷ ds) = ap (digit_before d) (zero_goes ds)

before_some : (d e : ℕ) (ds : List ℕ) (ws : List ℕ) → ws ≡ ds ++ e ∷ [] → digit_before d ws ≡ d ∷ (ds ++ e ∷ [])
before_some d e [] ws h = ap (digit_before d) h
before_some d e (c ∷ ds) ws h = ap (digit_before d) h

-- and up to another digit all stay
pub others_stay : (ds : List ℕ) (d : ℕ) → (d == 48) ≡ false → without_zeros (ds ++ d ∷ []) ≡ ds ++ d ∷ []
others_stay [] d h = rw h refl
others_stay (e ∷ ds) d h = before_some e d ds (without_zeros (ds ++ d ∷ [])) (others_stay ds d h)

-- one digit fewer, where that digit is a zero
pub one_zero_fewer : (ds : List ℕ) (n : ℕ) → suc n ≤ length ds → slice_index ds n ≡ 48 → without_zeros (take n ds) ≡ without_zeros (take (suc n) ds)
one_zero_fewer [] n h z = absurd (omega (arith, h))
one_zero_fewer (d ∷ ds) zero h z = rw z refl
one_zero_fewer (d ∷ ds) (suc n) h z = ap (digit_before d) (one_zero_fewer ds n (omega (arith, h)) z)

-- where the digit isn't, all up to it stay
pub stays_at : (ds : List ℕ) (n : ℕ) → suc n ≤ length ds → (slice_index ds n == 48) ≡ false → without_zeros (take (suc n) ds) ≡ take (suc n) ds
stays_at [] n h z = absurd (omega (arith, h))
stays_at (d ∷ ds) zero h z = rw z refl
stays_at (d ∷ ds) (suc n) h z = stays d ds n (take (suc n) ds) (stays_at ds n (omega (arith, h)) z) (some ds n (omega (arith, h)))
  where
    some : (es : List ℕ) (k : ℕ) → suc k ≤ length es → 1 ≤ length (take (suc k) es)
    some [] k h = absurd (omega (arith, h))
    some (e ∷ es) k h = omega arith

    stays : (d : ℕ) (ds : List ℕ) (n : ℕ) (ws : List ℕ) → without_zeros ws ≡ ws → 1 ≤ length ws → digit_before d (without_zeros ws) ≡ d ∷ ws
    stays d ds n [] same few = absurd (omega (arith, few))
    stays d ds n (w ∷ ws) same few = ap (digit_before d) same

-- the same by the number of digits so far
before_end : (n : ℕ) → suc n - 1 ≡ n
before_end n = omega arith

pub one_fewer : (ds : List ℕ) (end : ℕ) → 0 < end → end ≤ length ds → slice_index ds (end - 1) ≡ 48 → without_zeros (take end ds) ≡ without_zeros ds
    → without_zeros (take (end - 1) ds) ≡ without_zeros ds
one_fewer ds zero some within is same = absurd (omega (arith, some))
one_fewer ds (suc n) some within is same =
    ap (λ k. without_zeros (take k ds)) (before_end n) ∙ one_zero_fewer ds n within (ap (slice_index ds) (sym (before_end n)) ∙ is) ∙ same

pub ends_at : (ds : List ℕ) (end : ℕ) → 0 < end → end ≤ length ds → (slice_index ds (end - 1) == 48) ≡ false → without_zeros (take end ds) ≡ without_zeros ds → take end ds ≡ without_zeros ds
ends_at ds zero some within is same = absurd (omega (arith, some))
ends_at ds (suc n) some within is same = sym (stays_at ds n within (subst (λ k. (slice_index ds k == 48) ≡ false) (before_end n) is)) ∙ same

-- ---- the text of a fraction

pub nothing_left : (digits : List ℕ) (n : ℕ) → take n digits ≡ without_zeros digits → n ≡ 0 → fraction_text (if_some (without_zeros digits)) ≡ []
nothing_left digits n is none = ap (λ ds. fraction_text (if_some ds)) (sym is ∙ ap (λ k. take k digits) none)

some_text : (ds : List ℕ) → 1 ≤ length ds → fraction_text (if_some ds) ≡ 46 ∷ ds
some_text [] h = absurd (omega (arith, h))
some_text (d ∷ ds) h = refl

pub something_left : (digits : List ℕ) (n : ℕ) → take n digits ≡ without_zeros digits → 1 ≤ length (take n digits) → fraction_text (if_some (without_zeros digits)) ≡ 46 ∷ take n digits
something_left digits n is some = ap (λ ds. fraction_text (if_some ds)) (sym is) ∙ some_text (take n digits) some
