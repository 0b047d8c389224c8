-- The shortest text of a moment is a stamp of it.
use Rattle.std.proofs.Common.{◌≡◌, ◌∙◌, inl, ℕ, zero, suc, ◌+◌, ◌*◌, ◌^◌, ◌<◌, ◌≤◌, ℤ, pos, neg_ℤ, ◌+ℤ◌, ◌*ℤ◌, ◌<ℤ◌, ◌≤ℤ◌, Bool, true, false, if◌then◌else◌, arith, refl, sym, ap, subst}
use Rattle.std.proofs.lemmas.Int.{by_lt_z}
use Rattle.std.specs.Prelude.{nat_lt}
use Rattle.jiff_core.specs.Calendar.{day_count, days_from_civil, IsCivilDate}
use Rattle.jiff_core.proofs.SignedLemmas.{signed_arith}
use Rattle.jiff_core.proofs.CalendarLemmas.{days_from_civil-day_count, day_count-lt_year}
use Rattle.dump_spec.specs.fleet_rows.Printed.{clock_at}
use Rattle.dump_spec.specs.history_laws.PrintedLaws.{IsInFourDigitYear}
use Rattle.dump_spec.specs.stamp_time.Range.{IsStampDay, IsStampMoment}
use Rattle.dump_spec.specs.text_spec.Stamp.{Zone, utc, ahead, behind, IsZone, IsDay, StampText, IsStampText, Clock, IsClock, zone_seconds, moment, stamp_moment}
use Rattle.dump_spec.specs.Stamps.{short_fraction, short_stamp, short_text}
use Rattle.dump_spec.proofs.of_history_laws.PrintedClocks.{Shows, clock_at_shows}
use Rattle.dump_spec.proofs.of_stamp_time.DayLemmas.{day_count-year_1, stamp_day, year_to}
use Rattle.dump_spec.proofs.of_stamp_time.RangeLaws.{stamp_in_range}
use Rattle.dump_laws.specs.StampLaws.{ShortTextsAreStamps}
use Rattle.dump_laws.proofs.Zeros.{short_fraction_is}

-- ---- which years a clock shows

-- a day of the year 0 comes before the year 1
year_0_is_before : (month day : ℕ) → IsDay 0 month day → days_from_civil (pos 0) month day <ℤ neg_ℤ (pos 719_162)
year_0_is_before month day h =
    let civil : IsCivilDate (pos 0) month day = (omega (arith, signed_arith), (h.month_from, h.month_to), (h.day_from, h.day_to)) in
    let before : day_count (pos 0) month day < day_count (pos 1) 1 1 = day_count-lt_year (pos 0) month day (pos 1) 1 1 civil (omega arith) (omega (arith, signed_arith)) in
    omega (arith, signed_arith, before, day_count-year_1, days_from_civil-day_count (pos 0) month day)

year_is_1 : (year month day : ℕ) → IsDay year month day → neg_ℤ (pos 719_162) ≤ℤ days_from_civil (pos year) month day → 1 ≤ year
year_is_1 zero month day h from = absurd (let before = year_0_is_before month day h in omega (arith, signed_arith, before, from))
year_is_1 (suc year) month day h from = omega arith

-- the day at which a moment is
first_day : (day : ℤ) (second nanos : ℕ) → second < 86_400 → nanos < 10 ^ 9 → neg_ℤ (pos 62_135_596_800_000_000_000) ≤ℤ moment day second nanos (pos 0) → neg_ℤ (pos 719_162) ≤ℤ day
first_day day second nanos hs hn h = omega (arith, signed_arith)

last_day : (day : ℤ) (second nanos : ℕ) → second < 86_400 → nanos < 10 ^ 9 → moment day second nanos (pos 0) <ℤ pos 250_278_163_200_000_000_000 → day ≤ℤ pos 2_896_737
last_day day second nanos hs hn h = omega (arith, signed_arith)

second_of : (c : Clock) → IsClock c → c.hour * 3600 + c.minute * 60 + c.second < 86_400
second_of c h = omega (arith, h.hour, h.minute, h.second)

-- from 0001-01-01T00:00:00Z on the year is at least 1
year_from : (m : ℤ) (c : Clock) → Shows c m → neg_ℤ (pos 62_135_596_800_000_000_000) ≤ℤ m → 1 ≤ c.year
year_from m c h from =
    let is = h.is_clock in
    year_is_1 c.year c.month c.day is.day
    (first_day (days_from_civil (pos c.year) c.month c.day) (c.hour * 3600 + c.minute * 60 + c.second) c.nanos (second_of c is) is.nanos
    (subst (λ z. neg_ℤ (pos 62_135_596_800_000_000_000) ≤ℤ z) h.moment_is from))

-- and before 9901-01-01T00:00:00Z at most 9900
year_before : (m : ℤ) (c : Clock) → Shows c m → m <ℤ pos 250_278_163_200_000_000_000 → c.year ≤ 9900
year_before m c h to =
    let is = h.is_clock in
    year_to c.year c.month c.day is.day.day_from
    (last_day (days_from_civil (pos c.year) c.month c.day) (c.hour * 3600 + c.minute * 60 + c.second) c.nanos (second_of c is) is.nanos
    (subst (λ z. z <ℤ pos 250_278_163_200_000_000_000) h.moment_is to))

-- a clock shows the year 0 before the year 1 alone
early_of : (day : ℤ) (second nanos : ℕ) → second < 86_400 → nanos < 10 ^ 9 → day <ℤ neg_ℤ (pos 719_162) → moment day second nanos (pos 0) <ℤ neg_ℤ (pos 62_135_596_800_000_000_000)
early_of day second nanos hs hn h = omega (arith, signed_arith)

year_0_is_early : (m : ℤ) (c : Clock) → Shows c m → c.year ≡ 0 → m <ℤ neg_ℤ (pos 62_135_596_800_000_000_000)
year_0_is_early m c h none =
    let is = h.is_clock in
    let before : days_from_civil (pos c.year) c.month c.day <ℤ neg_ℤ (pos 719_162) =
    subst (λ y. days_from_civil (pos y) c.month c.day <ℤ neg_ℤ (pos 719_162)) (sym none) (year_0_is_before c.month c.day (subst (λ y. IsDay y c.month c.day) none is.day)) in
    subst (λ z. z <ℤ neg_ℤ (pos 62_135_596_800_000_000_000)) (sym h.moment_is)
    (early_of (days_from_civil (pos c.year) c.month c.day) (c.hour * 3600 + c.minute * 60 + c.second) c.nanos (second_of c is) is.nanos before)

-- ---- a clock of a zone

zone_moment : (m : ℤ) (day : ℤ) (second nanos : ℕ) (offset : ℤ) → m +ℤ offset *ℤ pos 1_000_000_000 ≡ moment day second nanos (pos 0) → m ≡ moment day second nanos offset
zone_moment m day second nanos offset h = omega (arith, signed_arith, h)

-- what a clock in a zone shows, in a year of stamps
in_zone : (m : ℤ) (zone : Zone) (c : Clock) → IsZone zone → Shows c (m +ℤ zone_seconds zone *ℤ pos 1_000_000_000) → 1 ≤ c.year → c.year ≤ 9900
    → (s : StampText)
    → s ≡ record { year = c.year; month = c.month; day = c.day; letter = 84; hour = c.hour; minute = c.minute; second = c.second; fraction = short_fraction c.nanos; zone = zone }
    → IsStampText s × (m ≡ stamp_moment s)
in_zone m zone c hz h from to s e =
    let is = h.is_clock in
    let fraction = short_fraction_is c.nanos is.nanos in
    let day = days_from_civil (pos c.year) c.month c.day in
    let second = c.hour * 3600 + c.minute * 60 + c.second in
    subst (λ (t : StampText). IsStampText t × (m ≡ stamp_moment t)) (sym e) (
      record {
        year_from = from;
        year_to = to;
        day = is.day;
        letter = inl refl;
        hour = is.hour;
        minute = is.minute;
        second = is.second;
        fraction = fraction.0;
        zone = hz;
      },
      zone_moment m day second c.nanos (zone_seconds zone) h.moment_is ∙ ap (λ n. moment day second n (zone_seconds zone)) (sym fraction.1),
    )

-- ---- the three zones

module _ (clock : ℤ → Clock) (shows : (m : ℤ) → IsInFourDigitYear m → Shows (clock m) m) where
  abbrev shifted : ℤ → Zone → ℤ
  shifted m zone = m +ℤ zone_seconds zone *ℤ pos 1_000_000_000

  abbrev stamp_in : ℤ → Zone → StampText
  stamp_in m zone =
      let c = clock (shifted m zone) in
      record { year = c.year; month = c.month; day = c.day; letter = 84; hour = c.hour; minute = c.minute; second = c.second; fraction = short_fraction c.nanos; zone = zone }

  abbrev IsGood : ℤ → StampText → Type 0
  IsGood m s = IsStampText s × (m ≡ stamp_moment s)

  by_moment : (m : ℤ) (zone : Zone) → IsZone zone → IsInFourDigitYear (shifted m zone)
      → neg_ℤ (pos 62_135_596_800_000_000_000) ≤ℤ shifted m zone → shifted m zone <ℤ pos 250_278_163_200_000_000_000 → IsGood m (stamp_in m zone)
  by_moment m zone hz four from to =
      let h = shows (shifted m zone) four in
      in_zone m zone (clock (shifted m zone)) hz h (year_from (shifted m zone) (clock (shifted m zone)) h from) (year_before (shifted m zone) (clock (shifted m zone)) h to) (stamp_in m zone) refl

  ahead_in : (m : ℤ) → IsStampMoment m → m <ℤ neg_ℤ (pos 62_135_596_800_000_000_000) → IsGood m (stamp_in m (ahead 23 59))
  ahead_in m h before =
      by_moment m (ahead 23 59) (omega arith, omega arith) (omega (arith, signed_arith, h, before), omega (arith, signed_arith, h, before)) (omega (arith, signed_arith, h, before)) (omega (arith, signed_arith, h, before))

  behind_in : (m : ℤ) → IsStampMoment m → pos 250_278_163_200_000_000_000 ≤ℤ m → IsGood m (stamp_in m (behind 23 59))
  behind_in m h after =
      by_moment m (behind 23 59) (omega arith, omega arith) (omega (arith, signed_arith, h, after), omega (arith, signed_arith, h, after)) (omega (arith, signed_arith, h, after)) (omega (arith, signed_arith, h, after))

  four_digits : (m : ℤ) → IsStampMoment m → IsInFourDigitYear m
  four_digits m h = (omega (arith, signed_arith, h), omega (arith, signed_arith, h))

  same_moment : (m : ℤ) → m ≡ shifted m (utc 90)
  same_moment m = omega (arith, signed_arith)

  utc_in : (m : ℤ) → IsStampMoment m → 1 ≤ (clock m).year → (clock m).year ≤ 9900 → IsGood m (stamp_in m (utc 90))
  utc_in m h from to =
      let same = same_moment m in
      in_zone m (utc 90) (clock (shifted m (utc 90))) (inl refl) (subst (λ z. Shows (clock z) z) same (shows m (four_digits m h)))
      (subst (λ z. 1 ≤ (clock z).year) same from) (subst (λ z. (clock z).year ≤ 9900) same to) (stamp_in m (utc 90)) refl

  late_in : (m : ℤ) → IsStampMoment m → 9900 < (clock m).year → IsGood m (stamp_in m (behind 23 59))
  late_in m h late =
      by_lt_z m (pos 250_278_163_200_000_000_000)
      (λ before. absurd (let most = year_before m (clock m) (shows m (four_digits m h)) before in omega (arith, most, late)))
      (λ after. behind_in m h after)

  early_in : (m : ℤ) → IsStampMoment m → (clock m).year < 1 → IsGood m (stamp_in m (ahead 23 59))
  early_in m h early = ahead_in m h (year_0_is_early m (clock m) (shows m (four_digits m h)) (omega (arith, early)))

  abbrev zone_by : Bool → Bool → Zone
  zone_by early late = if early then ahead 23 59 else (if late then behind 23 59 else utc 90)

  less_is : (n k : ℕ) → nat_lt n k ≡ true → n < k
  less_is n k h = grind arith

  not_less : (n k : ℕ) → nat_lt n k ≡ false → k ≤ n
  not_less n k h = grind arith

  pub in_its_zone : (m : ℤ) → IsStampMoment m → (early late : Bool) → nat_lt (clock m).year 1 ≡ early → nat_lt 9900 (clock m).year ≡ late → IsGood m (stamp_in m (zone_by early late))
  in_its_zone m h true late e f = early_in m h (less_is (clock m).year 1 e)
  in_its_zone m h false true e f = late_in m h (less_is 9900 (clock m).year f)
  in_its_zone m h false false e f = utc_in m h (not_less (clock m).year 1 e) (not_less 9900 (clock m).year f)

pub short_texts_are_stamps : ShortTextsAreStamps
unfolding short_text
short_texts_are_stamps m stamp =
    let good = in_its_zone clock_at clock_at_shows m (stamp_in_range stamp.0 m stamp.1) (nat_lt (clock_at m).year 1) (nat_lt 9900 (clock_at m).year) refl refl in
    record { stamp = short_stamp m; is_stamp = good.0; text_is = refl; moment_is = good.1 }

-- ---- the year that a clock shows, by the moment

in_four_digits : (m : ℤ) → IsStampMoment m → IsInFourDigitYear m
in_four_digits m h = (omega (arith, signed_arith, h), omega (arith, signed_arith, h))

stamp_days : (c : Clock) → IsClock c → 1 ≤ c.year → c.year ≤ 9900 → IsStampDay (days_from_civil (pos c.year) c.month c.day)
stamp_days c is from to =
    let civil : IsCivilDate (pos c.year) c.month c.day = (omega (arith, signed_arith, to), (is.day.month_from, is.day.month_to), (is.day.day_from, is.day.day_to)) in
    stamp_day (pos c.year) c.month c.day civil (omega (arith, signed_arith, from)) (omega (arith, signed_arith, to))

not_before_them : (day : ℤ) (second nanos : ℕ) → second < 86_400 → nanos < 10 ^ 9 → IsStampDay day → neg_ℤ (pos 62_135_596_800_000_000_000) ≤ℤ moment day second nanos (pos 0)
not_before_them day second nanos hs hn h = omega (arith, signed_arith, h)

not_after_them : (day : ℤ) (second nanos : ℕ) → second < 86_400 → nanos < 10 ^ 9 → IsStampDay day → moment day second nanos (pos 0) <ℤ pos 250_278_163_200_000_000_000
not_after_them day second nanos hs hn h = omega (arith, signed_arith, h)

-- a clock in a year of stamps shows a moment of these years
in_these_years : (m : ℤ) (c : Clock) → Shows c m → 1 ≤ c.year → c.year ≤ 9900 → (neg_ℤ (pos 62_135_596_800_000_000_000) ≤ℤ m) × (m <ℤ pos 250_278_163_200_000_000_000)
in_these_years m c h from to =
    let is = h.is_clock in
    let day = days_from_civil (pos c.year) c.month c.day in
    let second = c.hour * 3600 + c.minute * 60 + c.second in
    let days = stamp_days c is from to in (
      subst (λ z. neg_ℤ (pos 62_135_596_800_000_000_000) ≤ℤ z) (sym h.moment_is) (not_before_them day second c.nanos (second_of c is) is.nanos days),
      subst (λ z. z <ℤ pos 250_278_163_200_000_000_000) (sym h.moment_is) (not_after_them day second c.nanos (second_of c is) is.nanos days),
    )

below_1 : (n : ℕ) (b : Bool) → nat_lt n 1 ≡ b → (1 ≤ n → ⊥) → n < 1
below_1 n true e never = grind arith
below_1 n false e never = absurd (never (grind arith))

above_9900 : (n : ℕ) (b : Bool) → nat_lt 9900 n ≡ b → (n ≤ 9900 → ⊥) → 9900 < n
above_9900 n true e never = grind arith
above_9900 n false e never = absurd (never (grind arith))

pub year_is_0 : (m : ℤ) → IsStampMoment m → m <ℤ neg_ℤ (pos 62_135_596_800_000_000_000) → (clock_at m).year < 1
year_is_0 m h early =
    let c = clock_at m in
    let shows = clock_at_shows m (in_four_digits m h) in
    let to = year_before m c shows (omega (arith, signed_arith, early)) in
    below_1 c.year (nat_lt c.year 1) refl (λ from. let starts = (in_these_years m c shows from to).0 in omega (arith, signed_arith, early, starts))

pub year_is_after : (m : ℤ) → IsStampMoment m → pos 250_278_163_200_000_000_000 ≤ℤ m → 9900 < (clock_at m).year
year_is_after m h late =
    let c = clock_at m in
    let shows = clock_at_shows m (in_four_digits m h) in
    let from = year_from m c shows (omega (arith, signed_arith, late)) in
    above_9900 c.year (nat_lt 9900 c.year) refl (λ to. let ends = (in_these_years m c shows from to).1 in omega (arith, signed_arith, late, ends))

pub year_is_stamps : (m : ℤ) → IsStampMoment m → neg_ℤ (pos 62_135_596_800_000_000_000) ≤ℤ m → m <ℤ pos 250_278_163_200_000_000_000 → (1 ≤ (clock_at m).year) × ((clock_at m).year ≤ 9900)
year_is_stamps m h from to =
    let shows = clock_at_shows m (in_four_digits m h) in
    (year_from m (clock_at m) shows from, year_before m (clock_at m) shows to)
