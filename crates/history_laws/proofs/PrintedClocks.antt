-- What `clock_at` shows at a moment of the years 0 to 9999 is a clock of UTC that shows this moment.
use Rattle.std.proofs.Common.{◌≡◌, ◌∙◌, ◌⊎◌, inl, inr, ℕ, zero, suc, ◌+◌, ◌*◌, ◌/◌, ◌%◌, ◌^◌, ◌<◌, ◌≤◌, Bool, true, false, if◌then◌else◌, ℤ, pos, neg_ℤ, ◌+ℤ◌, ◌-ℤ◌, ◌<ℤ◌, ◌≤ℤ◌, int_lt, unsigned_abs, arith, rules, refl, sym, subst}
use Rattle.std.proofs.lemmas.Bool.{cases_lt}
use Rattle.std.specs.Int.{int_div_euclid, int_rem_euclid}
use Rattle.jiff_core.specs.Calendar.{day_count, days_from_civil, days_in_month, IsBetween, IsCivilDate}
use Rattle.jiff_core.proofs.SignedLemmas.{signed_arith, one_part}
use Rattle.jiff_core.proofs.MarchLemmas.{day_count-early}
use Rattle.jiff_core.proofs.CalendarLemmas.{days_from_civil-day_count, days_in_month_bounds, day_count-end, day_count_bounds, day_count-lt_year, day_count-day_of_year}
use Rattle.jiff_core.proofs.DateLemmas.{days_from_civil-day, days_from_civil-next_month, days_from_civil-next_year}
use Rattle.spool_spec.specs.text_spec.Stamp.{IsDay, Clock, IsClock, clock_moment, moment}
use Rattle.spool_spec.specs.fleet_rows.Printed.{last_begun, year_of, month_of, clock_of_day, clock_at}
use Rattle.history_laws.specs.PrintedLaws.{IsInFourDigitYear}

-- ---- the last that has begun

-- n, from `low` to the limit, begins no later than the day, and the next begins after it
record IsLastBegun (first_day : ℕ → ℤ) (low limit : ℕ) (day : ℤ) (n : ℕ) : Type 0 where
  from : low ≤ n
  to : n ≤ limit
  begun : first_day n ≤ℤ day
  next : n < limit → day <ℤ first_day (suc n)

-- so it stays where one more that begins after the day may be taken
one_more :
    (first_day : ℕ → ℤ) (low limit n : ℕ) (day : ℤ) → day <ℤ first_day (suc limit) → IsLastBegun first_day low limit day n
    → IsLastBegun first_day low (suc limit) day n
one_more first_day low limit n day after h =
    record {
      from = h.from;
      to = omega (arith, h.to);
      begun = h.begun;
      next = λ less. elim (cases_lt n limit) [
        | inl below ↦ h.next below
        | inr end ↦ let same : limit ≡ n = omega (arith, h.to) in subst (λ k. day <ℤ first_day (suc k)) same after
      ];
    }

last_begun_step :
    (first_day : ℕ → ℤ) (low limit : ℕ) (day : ℤ) (b : Bool) → int_lt day (first_day (suc limit)) ≡ b → low ≤ suc limit → first_day low ≤ℤ day
    → (limit < low) ⊎ (low ≤ limit) → (low ≤ limit → IsLastBegun first_day low limit day (last_begun first_day limit day))
    → IsLastBegun first_day low (suc limit) day (if b then last_begun first_day limit day else suc limit)
last_begun_step first_day low limit day false e le begun h earlier =
    record { from = le; to = omega arith; begun = omega (arith, signed_arith, e); next = λ less. absurd (omega arith) }
last_begun_step first_day low limit day true e le begun (inl above) earlier =
    let same : suc limit ≡ low = omega arith in
    let late : first_day (suc limit) ≤ℤ day = subst (λ k. first_day k ≤ℤ day) (sym same) begun in
    absurd (omega (arith, signed_arith, e, late))
last_begun_step first_day low limit day true e le begun (inr below) earlier =
    one_more first_day low limit (last_begun first_day limit day) day (omega (arith, signed_arith, e)) (earlier below)

last_begun_is :
    (first_day : ℕ → ℤ) (low limit : ℕ) (day : ℤ) → low ≤ limit → first_day low ≤ℤ day
    → IsLastBegun first_day low limit day (last_begun first_day limit day)
last_begun_is first_day low zero day le begun =
    let same : low ≡ 0 = omega arith in
    record { from = le; to = omega arith; begun = subst (λ k. first_day k ≤ℤ day) same begun; next = λ less. absurd (omega arith) }
last_begun_is first_day low (suc limit) day le begun =
    last_begun_step first_day low limit day (int_lt day (first_day (suc limit))) refl le begun (cases_lt limit low)
    (λ below. last_begun_is first_day low limit day below begun)

-- ---- the day

-- a day of the years 0 to 9999, from 1970-01-01
abbrev IsPrintedDay : ℤ → Type 0
IsPrintedDay day = IsBetween (neg_ℤ (pos 719_528)) (pos 2_932_896) day

abbrev first_of_year : ℕ → ℤ
first_of_year year = days_from_civil (pos year) 1 1

abbrev first_of_month : ℕ → ℕ → ℤ
first_of_month year month = days_from_civil (pos year) month 1

-- the year has begun, and the next has not
record IsInYear (day : ℤ) (year : ℕ) : Type 0 where
  to : year ≤ 9999
  begun : first_of_year year ≤ℤ day
  next : day <ℤ first_of_year (suc year)

-- the ends of the range
count_of_0 : day_count (pos 0) 1 1 ≡ 3_652_425
count_of_0 = day_count-early (pos 0) 9999 1 1 refl (omega arith) (omega arith) (omega arith)

first_of_0 : first_of_year 0 ≡ neg_ℤ (pos 719_528)
first_of_0 = omega (arith, signed_arith, days_from_civil-day_count (pos 0) 1 1, count_of_0)

first_of_10000 : first_of_year 10000 ≡ pos 2_932_897
first_of_10000 = omega (arith, signed_arith, days_from_civil-day_count (pos 10000) 1 1, day_count-end)

in_year : (day : ℤ) (year : ℕ) → IsPrintedDay day → IsLastBegun first_of_year 0 9999 day year → IsInYear day year
in_year day year h last =
    record {
      to = last.to;
      begun = last.begun;
      next = elim (cases_lt year 9999) [
        | inl below ↦ last.next below
        | inr end ↦ let same : 10000 ≡ suc year = omega (arith, last.to) in subst (λ k. day <ℤ first_of_year k) same (omega (arith, signed_arith, h, first_of_10000))
      ];
    }

year_of_is : (day : ℤ) → IsPrintedDay day → IsInYear day (year_of day)
year_of_is day h =
    in_year day (year_of day) h (last_begun_is first_of_year 0 9999 day (omega arith) (omega (arith, signed_arith, h, first_of_0)))

-- the day after the month's last
abbrev month_end : ℕ → ℕ → ℤ
month_end year month = first_of_month year month +ℤ pos (days_in_month (pos year) month)

-- the next month begins after the days of this one
next_month : (year month : ℕ) → 1 ≤ month → first_of_month year (suc month) ≡ month_end year month
next_month year month from =
    let days = days_in_month (pos year) month in
    let some : 1 ≤ days = omega (arith, days_in_month_bounds (pos year) month) in
    let next : suc month ≡ month + 1 = omega arith in
    rw next (omega (arith, signed_arith, days_from_civil-next_month (pos year) month days from refl, days_from_civil-day (pos year) month 1 days (omega arith) some))

-- and the next year after those of December
december : (year : ℕ) → first_of_year (suc year) ≡ month_end year 12
december year =
    omega (arith, signed_arith, days_from_civil-next_year (pos year) (pos (suc year)) (omega (arith, signed_arith)) (omega (arith, signed_arith)), days_from_civil-day (pos year) 12 1 31 (omega arith) (omega arith))

-- the month of the year has begun, and has not ended
record IsInMonth (day : ℤ) (year month : ℕ) : Type 0 where
  from : 1 ≤ month
  to : month ≤ 12
  begun : first_of_month year month ≤ℤ day
  next : day <ℤ month_end year month

in_month : (day : ℤ) (year month : ℕ) → IsInYear day year → IsLastBegun (first_of_month year) 1 12 day month → IsInMonth day year month
in_month day year month h last =
    record {
      from = last.from;
      to = last.to;
      begun = last.begun;
      next = elim (cases_lt month 12) [
        | inl below ↦ subst (λ z. day <ℤ z) (next_month year month last.from) (last.next below)
        | inr end ↦ let same : 12 ≡ month = omega (arith, last.to) in subst (λ k. day <ℤ month_end year k) same (subst (λ z. day <ℤ z) (december year) h.next)
      ];
    }

month_of_is : (day : ℤ) (year : ℕ) → IsInYear day year → IsInMonth day year (month_of year day)
month_of_is day year h =
    in_month day year (month_of year day) h (last_begun_is (first_of_month year) 1 12 day (omega arith) h.begun)

-- the day of the month, counted from 1, is the day
day_is :
    (day : ℤ) (year month : ℕ) → IsInMonth day year month
    → days_from_civil (pos year) month (suc (unsigned_abs (day -ℤ first_of_month year month))) ≡ day
day_is day year month h =
    let since = unsigned_abs (day -ℤ first_of_month year month) in
    omega (arith, signed_arith, h.begun, one_part (day -ℤ first_of_month year month), days_from_civil-day (pos year) month 1 (suc since) (omega arith) (omega arith))

day_is_of_month : (day : ℤ) (year month : ℕ) → IsInMonth day year month → IsDay year month (suc (unsigned_abs (day -ℤ first_of_month year month)))
day_is_of_month day year month h =
    record { month_from = h.from; month_to = h.to; day_from = omega arith; day_to = omega (arith, signed_arith, h.begun, h.next, one_part (day -ℤ first_of_month year month)) }

-- ---- the clock

-- a clock of UTC shows the moment
pub record Shows (c : Clock) (m : ℤ) : Type 0 where
  pub is_clock : IsClock c
  pub moment_is : m ≡ clock_moment c

clock_of_day_shows :
    (day : ℤ) (second nanos : ℕ) → IsPrintedDay day → second < 86_400 → nanos < 10 ^ 9
    → Shows (clock_of_day day second nanos) (moment day second nanos (pos 0))
clock_of_day_shows day second nanos h hs hn =
    let year = year_of day in
    let in_year = year_of_is day h in
    let month = month_of year day in
    let in_month = month_of_is day year in_year in
    let time : second ≡ second / 3600 * 3600 + second % 3600 / 60 * 60 + second % 60 = omega arith in
    record {
      is_clock = record {
        year = in_year.to;
        day = day_is_of_month day year month in_month;
        hour = omega arith;
        minute = omega arith;
        second = omega arith;
        nanos = hn;
      };
      moment_is = λ i. moment (sym (day_is day year month in_month) i) (time i) nanos (pos 0);
    }

pub clock_at_shows : (m : ℤ) → IsInFourDigitYear m → Shows (clock_at m) m
clock_at_shows m h =
    let seconds = int_div_euclid m (pos 1_000_000_000) in
    let nanos = unsigned_abs (int_rem_euclid m (pos 1_000_000_000)) in
    let day = int_div_euclid seconds (pos 86_400) in
    let second = unsigned_abs (int_rem_euclid seconds (pos 86_400)) in
    let is_day : IsPrintedDay day = omega (arith, signed_arith, h) in
    let shows = clock_of_day_shows day second nanos is_day (omega (arith, signed_arith)) (omega (arith, signed_arith)) in
    let whole : m ≡ moment day second nanos (pos 0) = omega (arith, signed_arith) in
    record { is_clock = shows.is_clock; moment_is = whole ∙ shows.moment_is }

-- ---- clocks show moments of these years alone

counts_from_0 : (year month day : ℕ) → IsDay year month day → 3_652_425 ≤ day_count (pos year) month day
counts_from_0 zero month day h =
    omega (arith, count_of_0, h.day_from, day_count-day_of_year (pos 0) month day h.day_from)
counts_from_0 (suc year) month day h =
    let start : IsCivilDate (pos 0) 1 1 = search rules in
    omega (arith, count_of_0, day_count-lt_year (pos 0) 1 1 (pos (suc year)) month day start h.day_from (omega (arith, signed_arith)))

printed_day : (year month day : ℕ) → year ≤ 9999 → IsDay year month day → IsPrintedDay (days_from_civil (pos year) month day)
printed_day year month day to h =
    let civil : IsCivilDate (pos year) month day = (omega (arith, signed_arith, to), (h.month_from, h.month_to), (h.day_from, h.day_to)) in
    omega (arith, signed_arith, days_from_civil-day_count (pos year) month day, counts_from_0 year month day h, day_count_bounds (pos year) month day civil)

moment_range : (day : ℤ) (second nanos : ℕ) → IsPrintedDay day → second < 86_400 → nanos < 10 ^ 9 → IsInFourDigitYear (moment day second nanos (pos 0))
moment_range day second nanos h hs hn = omega (arith, signed_arith)

pub clock_moment_range : (c : Clock) → IsClock c → IsInFourDigitYear (clock_moment c)
clock_moment_range c h =
    moment_range (days_from_civil (pos c.year) c.month c.day) (c.hour * 3600 + c.minute * 60 + c.second) c.nanos
    (printed_day c.year c.month c.day h.year h.day) (omega (arith, h.hour, h.minute, h.second)) h.nanos
