-- The days of the years 1 to 9900.
use Rattle.std.proofs.Common.{◌≡◌, ◌≤◌, ◌<◌, ℕ, ℤ, pos, neg_ℤ, ◌≤ℤ◌, arith, refl, rules}
use Rattle.std.proofs.lemmas.Int.{by_lt_z}
use Rattle.jiff_core.specs.Calendar.{days_from_civil, day_count, IsCivilDate}
use Rattle.jiff_core.proofs.SignedLemmas.{signed_arith}
use Rattle.jiff_core.proofs.MarchLemmas.{day_count-early}
use Rattle.jiff_core.proofs.CalendarLemmas.{days_from_civil-day_count, day_count-day_of_year, day_count-lt_year}
use Rattle.stamp_time.specs.Range.{IsStampDay}

pub day_count-year_1 : day_count (pos 1) 1 1 ≡ 3_652_791
day_count-year_1 = day_count-early _ 10000 1 1 refl (omega arith) (omega arith) (omega arith)

day_count-year_9901 : day_count (pos 9901) 1 1 ≡ 7_268_691
day_count-year_9901 = day_count-early _ 19900 1 1 refl (omega arith) (omega arith) (omega arith)

day_count-year_0 : day_count (pos 0) 1 1 ≡ 3_652_425
day_count-year_0 = day_count-early _ 9999 1 1 refl (omega arith) (omega arith) (omega arith)

-- no day of a year lies before its first
from_year : (first y : ℤ) (m d : ℕ) → IsCivilDate first 1 1 → 1 ≤ d → first ≤ℤ y → day_count first 1 1 ≤ day_count y m d
from_year first y m d start d_from le =
    by_lt_z first y
    (λ lt. let before : day_count first 1 1 < day_count y m d = day_count-lt_year first 1 1 y m d start d_from lt in omega (arith, before))
    (λ ge. let same : y ≡ first = omega (arith, signed_arith) in
    rw (← same) (omega (arith, day_count-day_of_year y m d d_from, day_count-day_of_year y 1 1 (omega arith))))

pub stamp_day : (y : ℤ) (m d : ℕ) → IsCivilDate y m d → pos 1 ≤ℤ y → y ≤ℤ pos 9900 → IsStampDay (days_from_civil y m d)
stamp_day y m d h low high =
    let start : IsCivilDate (pos 1) 1 1 = search rules in
    let from = from_year (pos 1) y m d start h.2.0 low in
    let to : day_count y m d < day_count (pos 9901) 1 1 = day_count-lt_year y m d (pos 9901) 1 1 h (omega arith) (omega (arith, signed_arith)) in
    omega (arith, signed_arith, days_from_civil-day_count y m d, from, to, day_count-year_1, day_count-year_9901)

-- what comes after the year 0 has begun is of that year or a later one
pub year_from : (y : ℤ) (m d : ℕ) → IsCivilDate y m d → neg_ℤ (pos 719_163) ≤ℤ days_from_civil y m d → pos 0 ≤ℤ y
year_from y m d h late =
    by_lt_z y (pos 0)
    (λ lt. let before : day_count y m d < day_count (pos 0) 1 1 = day_count-lt_year y m d (pos 0) 1 1 h (omega arith) lt in
    absurd (omega (arith, signed_arith, days_from_civil-day_count y m d, before, day_count-year_0, late)))
    (λ ge. ge)

-- what comes before the year 9901 is of the year 9900 or an earlier one
pub year_to : (year m d : ℕ) → 1 ≤ d → days_from_civil (pos year) m d ≤ℤ pos 2_896_737 → year ≤ 9900
year_to year m d d_from early =
    let start : IsCivilDate (pos 9901) 1 1 = search rules in
    let no : 9901 ≤ year → ⊥ = λ late.
    (let le : pos 9901 ≤ℤ pos year = omega (arith, signed_arith, late) in
    let after = from_year (pos 9901) (pos year) m d start d_from le in
    omega (arith, signed_arith, days_from_civil-day_count (pos year) m d, after, day_count-year_9901, early)) in
    omega (arith, no)
