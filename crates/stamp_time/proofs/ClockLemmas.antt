-- A clock of `jiff` that shows a printable moment.
use Rattle.std.proofs.Common.{◌≡◌, ◌∙◌, ◌≤◌, ◌+◌, ◌*◌, ℕ, ℤ, pos, neg_ℤ, ◌≤ℤ◌, arith, subst, sym}
use Rattle.jiff_core.specs.declared.civil.datetime.DateTime.{DateTime}
use Rattle.jiff_core.specs.Calendar.{days_from_civil, days_in_month}
use Rattle.jiff_core.specs.Date.{epoch_day}
use Rattle.jiff_core.specs.DateTime.{civil_nanos}
use Rattle.jiff_core.proofs.DateTimeLemmas.{civil_nanos-parts, time_nanos_bound}
use Rattle.jiff_core.proofs.SignedLemmas.{signed_arith}
use Rattle.text_spec.specs.Stamp.{IsDay, moment}
use Rattle.stamp_time.specs.Range.{IsPrintable}
use Rattle.stamp_time.specs.Shown.{IsShownAt}
use Rattle.stamp_time.proofs.DayLemmas.{year_from}

-- it shows no year before 0
pub shown_year : (dt : DateTime) (m : ℤ) → IsPrintable m → civil_nanos dt ≡ m → pos 0 ≤ℤ dt.date.year
shown_year dt m printable shown =
    let d = dt.date in
    let late : neg_ℤ (pos 719_163) ≤ℤ epoch_day d = omega (arith, signed_arith, printable, shown, civil_nanos-parts dt, time_nanos_bound dt.time) in
    year_from d.year d.month d.day (d.year_in, d.month_in, d.day_in) late

shown_day :
    (y : ℤ) (year month day : ℕ) → pos year ≡ y → (1 ≤ month) × (month ≤ 12) → (1 ≤ day) × (day ≤ days_in_month y month)
    → IsDay year month day
shown_day y year month day e months days =
    record { month_from = months.0; month_to = months.1; day_from = days.0; day_to = subst (λ (z : ℤ). day ≤ days_in_month z month) (sym e) days.1 }

shown_moment :
    (dt : DateTime) (year : ℕ) → pos year ≡ dt.date.year
    → civil_nanos dt ≡ moment (days_from_civil (pos year) dt.date.month dt.date.day) (dt.time.hour * 3600 + dt.time.minute * 60 + dt.time.second) dt.time.subsec_nanosecond (pos 0)
shown_moment dt year e = rw e (omega (arith, signed_arith, civil_nanos-parts dt))

pub shown :
    (dt : DateTime) (m : ℤ) (year : ℕ) → civil_nanos dt ≡ m → pos year ≡ dt.date.year
    → IsShownAt m (record { year = year; month = dt.date.month; day = dt.date.day; hour = dt.time.hour; minute = dt.time.minute; second = dt.time.second; nanos = dt.time.subsec_nanosecond })
shown dt m year shows e =
    let d = dt.date in
    let t = dt.time in
    let last = d.year_in in
    record {
      is_clock = record {
        year = omega (arith, signed_arith);
        day = shown_day d.year year d.month d.day e d.month_in d.day_in;
        hour = omega (arith, t.hour_in);
        minute = omega (arith, t.minute_in);
        second = omega (arith, t.second_in);
        nanos = t.subsec_in;
      };
      moment_is = sym shows ∙ shown_moment dt year e;
    }
