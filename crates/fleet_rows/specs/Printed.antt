-- The text that is printed for a moment, as a function. The laws tie it to `IsPrintedStamp`.
use Rattle.std.specs.Prelude.{ℕ, zero, suc, ◌/◌, ◌%◌, ℤ, pos, ◌-ℤ◌, int_lt, unsigned_abs, List, if◌then◌else◌}
use Rattle.std.specs.Int.{int_div_euclid, int_rem_euclid}
use Rattle.jiff_core.specs.Calendar.{days_from_civil}
use Rattle.json_tree.specs.text_spec.Stamp.{Clock, clock_text}

-- the greatest number up to the limit whose first day is at or before the day; 0 if there is none
abbrev pub last_begun : (ℕ → ℤ) → ℕ → ℤ → ℕ
last_begun first_day zero day = 0
last_begun first_day (suc n) day = if int_lt day (first_day (suc n)) then last_begun first_day n day else suc n

-- the year of this day number, and its month in that year
abbrev pub year_of : ℤ → ℕ
year_of day = last_begun (λ year. days_from_civil (pos year) 1 1) 9999 day

abbrev pub month_of : ℕ → ℤ → ℕ
month_of year day = last_begun (λ month. days_from_civil (pos year) month 1) 12 day

abbrev pub clock_of_day : ℤ → ℕ → ℕ → Clock
clock_of_day day second nanos =
    let year = year_of day in
    let month = month_of year day in
    record {
      year = year;
      month = month;
      day = suc (unsigned_abs (day -ℤ days_from_civil (pos year) month 1));
      hour = second / 3600;
      minute = second % 3600 / 60;
      second = second % 60;
      nanos = nanos;
    }

-- what a UTC clock shows at the moment
abbrev pub clock_at : ℤ → Clock
clock_at m =
    let seconds = int_div_euclid m (pos 1_000_000_000) in
    clock_of_day (int_div_euclid seconds (pos 86_400)) (unsigned_abs (int_rem_euclid seconds (pos 86_400))) (unsigned_abs (int_rem_euclid m (pos 1_000_000_000)))

-- YYYY-MM-DDTHH:MM:SS.fffffffffZ
unfoldable pub full_text : ℤ → List ℕ
full_text m = clock_text 9 (clock_at m)
