-- The zone and the fraction of the stamps that a dump writes.
use Rattle.std.proofs.Common.{◌≡◌, ℕ, ◌≤◌, pos, ◌+ℤ◌, ◌*ℤ◌, ◌==◌, List, [], ◌∷◌, ◌++◌, Bool, true, false, if◌then◌else◌, Some, arith, refl}
use Rattle.std.specs.Prelude.{nat_lt}
use Rattle.dump_spec.specs.fleet_rows.Printed.{clock_at}
use Rattle.dump_spec.specs.text_spec.Stamp.{utc, ahead, behind, digits_text, zone_seconds}
use Rattle.dump_spec.specs.Stamps.{digit_before, without_zeros, if_some, short_zone}
use Rattle.dump_laws.specs.StampLaws.{ShortTextsAreInUtc, NoFractionEndsWithZero}

zone_by : (early late : Bool) → early ≡ false → late ≡ false → (if early then ahead 23 59 else (if late then behind 23 59 else utc 90)) ≡ utc 90
zone_by early late e f = rw (e, f) refl

not_below : (n k : ℕ) → k ≤ n → nat_lt n k ≡ false
not_below n k h = grind arith

pub short_texts_are_in_utc : ShortTextsAreInUtc
short_texts_are_in_utc m from to =
    let year = (clock_at m).year in
    zone_by (nat_lt year 1) (nat_lt 9900 year) (not_below year 1 from) (not_below 9900 year to)

never_nothing : (es : List ℕ) → [] ≡ es ++ 48 ∷ [] → ⊥
never_nothing [] e = cc
never_nothing (d ∷ es) e = cc

first_of_two : (d : ℕ) (b : Bool) (es : List ℕ) → (d == 48) ≡ b → (if b then [] else d ∷ []) ≡ es ++ 48 ∷ [] → ⊥
first_of_two d true es h e = never_nothing es e
first_of_two d false [] h e = (let same : d ≡ 48 = cc in grind arith)
first_of_two d false (x ∷ es) h e = (let rest : [] ≡ es ++ 48 ∷ [] = cc in never_nothing es rest)

step : (d : ℕ) (ws : List ℕ) → ((es : List ℕ) → ws ≡ es ++ 48 ∷ [] → ⊥) → (es : List ℕ) → digit_before d ws ≡ es ++ 48 ∷ [] → ⊥
step d [] before es e = first_of_two d (d == 48) es refl e
step d (w ∷ ws) before [] e = (let rest : w ∷ ws ≡ [] = cc in cc)
step d (w ∷ ws) before (x ∷ es) e = (let rest : w ∷ ws ≡ es ++ 48 ∷ [] = cc in before es rest)

ends_otherwise : (ds es : List ℕ) → without_zeros ds ≡ es ++ 48 ∷ [] → ⊥
ends_otherwise [] es e = never_nothing es e
ends_otherwise (d ∷ ds) es e = step d (without_zeros ds) (ends_otherwise ds) es e

some_ends : (ws es : List ℕ) → ((fs : List ℕ) → ws ≡ fs ++ 48 ∷ [] → ⊥) → if_some ws ≡ Some (es ++ 48 ∷ []) → ⊥
some_ends [] es otherwise e = cc
some_ends (w ∷ ws) es otherwise e = (let same : w ∷ ws ≡ es ++ 48 ∷ [] = cc in otherwise es same)

pub no_fraction_ends_with_zero : NoFractionEndsWithZero
no_fraction_ends_with_zero m digits e =
    let nanos = (clock_at (m +ℤ zone_seconds (short_zone m) *ℤ pos 1_000_000_000)).nanos in
    some_ends (without_zeros (digits_text 9 nanos)) digits (ends_otherwise (digits_text 9 nanos)) e
