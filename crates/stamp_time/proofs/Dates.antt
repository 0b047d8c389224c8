-- Each day from 0001-01-01 on has a date.
use Rattle.std.proofs.Common.{◌≡◌, ◌∙◌, ◌⊎◌, inl, inr, ℕ, zero, suc, ◌+◌, ◌≤◌, ◌<◌, ℤ, pos, neg_ℤ, ◌+ℤ◌, arith, subst, sym, ap}
use Rattle.std.proofs.lemmas.Bool.{cases_lt}
use Rattle.jiff_core.specs.Calendar.{days_from_civil, days_in_month}
use Rattle.jiff_core.proofs.SignedLemmas.{signed_arith}
use Rattle.jiff_core.proofs.CalendarLemmas.{days_in_month_bounds, days_from_civil-day_count}
use Rattle.jiff_core.proofs.DateLemmas.{days_from_civil-day, days_from_civil-next_month, days_from_civil-next_year}
use Rattle.text_spec.specs.Stamp.{IsDay}
use Rattle.stamp_time.proofs.DayLemmas.{day_count-year_1}

pub record HasDate (z : ℤ) : Type 0 where
  pub year : ℕ
  pub month : ℕ
  pub day : ℕ
  pub from : 1 ≤ year
  pub is_day : IsDay year month day
  pub at : days_from_civil (pos year) month day ≡ z

first_date : HasDate (neg_ℤ (pos 719_162) +ℤ pos 0)
first_date = record {
  year = 1;
  month = 1;
  day = 1;
  from = omega arith;
  is_day = record { month_from = omega arith; month_to = omega arith; day_from = omega arith; day_to = omega (arith, (days_in_month_bounds (pos 1) 1).1) };
  at = omega (arith, signed_arith, days_from_civil-day_count (pos 1) 1 1, day_count-year_1);
}

next_day : (z : ℤ) (h : HasDate z) → h.day < days_in_month (pos h.year) h.month → HasDate (z +ℤ pos 1)
next_day z h more =
    let is = h.is_day in
    record {
      year = h.year;
      month = h.month;
      day = h.day + 1;
      from = h.from;
      is_day = record { month_from = is.month_from; month_to = is.month_to; day_from = omega arith; day_to = omega (arith, more) };
      at = omega (arith, signed_arith, days_from_civil-day (pos h.year) h.month h.day (h.day + 1) is.day_from (omega arith), h.at);
    }

next_month : (z : ℤ) (h : HasDate z) → h.day ≡ days_in_month (pos h.year) h.month → h.month < 12 → HasDate (z +ℤ pos 1)
next_month z h last more =
    let is = h.is_day in
    record {
      year = h.year;
      month = h.month + 1;
      day = 1;
      from = h.from;
      is_day = record { month_from = omega arith; month_to = omega (arith, more); day_from = omega arith; day_to = omega (arith, (days_in_month_bounds (pos h.year) (h.month + 1)).1) };
      at = omega (arith, signed_arith, days_from_civil-next_month (pos h.year) h.month h.day is.month_from last, h.at);
    }

next_year : (z : ℤ) (h : HasDate z) → h.day ≡ days_in_month (pos h.year) h.month → h.month ≡ 12 → HasDate (z +ℤ pos 1)
next_year z h last december =
    let is = h.is_day in
    let thirty_one : h.day ≡ 31 = last ∙ ap (λ m. days_in_month (pos h.year) m) december in
    let here : days_from_civil (pos h.year) 12 31 ≡ z = (λ i. days_from_civil (pos h.year) (sym december i) (sym thirty_one i)) ∙ h.at in
    record {
      year = h.year + 1;
      month = 1;
      day = 1;
      from = omega arith;
      is_day = record { month_from = omega arith; month_to = omega arith; day_from = omega arith; day_to = omega (arith, (days_in_month_bounds (pos (h.year + 1)) 1).1) };
      at = omega (arith, signed_arith, days_from_civil-next_year (pos h.year) (pos (h.year + 1)) (omega (arith, signed_arith)) (omega (arith, signed_arith)), here);
    }

in_next_month : (z : ℤ) (h : HasDate z) → h.day ≡ days_in_month (pos h.year) h.month → (h.month < 12) ⊎ (12 ≤ h.month) → HasDate (z +ℤ pos 1)
in_next_month z h last (inl more) = next_month z h last more
in_next_month z h last (inr end) = next_year z h last (omega (arith, h.is_day.month_to))

next_date :
    (z : ℤ) (h : HasDate z) → (h.day < days_in_month (pos h.year) h.month) ⊎ (days_in_month (pos h.year) h.month ≤ h.day)
    → HasDate (z +ℤ pos 1)
next_date z h (inl more) = next_day z h more
next_date z h (inr end) = in_next_month z h (omega (arith, h.is_day.day_to)) (cases_lt h.month 12)

pub has_date : (n : ℕ) → HasDate (neg_ℤ (pos 719_162) +ℤ pos n)
has_date zero = first_date
has_date (suc n) =
    let here = has_date n in
    let after : neg_ℤ (pos 719_162) +ℤ pos n +ℤ pos 1 ≡ neg_ℤ (pos 719_162) +ℤ pos (suc n) = omega (arith, signed_arith) in
    subst (λ (z : ℤ). HasDate z) after (next_date (neg_ℤ (pos 719_162) +ℤ pos n) here (cases_lt here.day (days_in_month (pos here.year) here.month)))
