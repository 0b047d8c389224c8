-- Stamps (a profile of RFC 3339, sections 5.6 and 5.7): the texts that name a moment, and the texts that are printed for one. A
-- moment is a number of nanoseconds since 1970-01-01T00:00:00Z. The calendar is the proleptic Gregorian one of `jiff_core`. Its
-- `days_in_month` takes a year and a month. Its `days_from_civil` gives the days since 1970-01-01 of a year, month and day.
use Rattle.std.specs.Prelude.{◌≡◌, ℕ, zero, suc, ◌+◌, ◌-◌, ◌*◌, ◌/◌, ◌%◌, ◌^◌, ◌<◌, ◌≤◌, ℤ, pos, neg_ℤ, ◌+ℤ◌, ◌-ℤ◌, ◌*ℤ◌, List, [], ◌∷◌, ◌++◌, length, take, Option, Some, None, ◌⊎◌}
use Rattle.std.specs.Str.Parse.{digits_value, AllDigits}
use Rattle.jiff_core.specs.Calendar.{days_from_civil, days_in_month}

-- the last `width` decimal digits of n
abbrev pub digits_text : ℕ → ℕ → List ℕ
digits_text zero n = []
digits_text (suc width) n = digits_text width (n / 10) ++ (48 + n % 10) ∷ []

-- ---- the texts that name a moment

-- Z or z, or the hours and minutes by which the local clock is ahead of UTC or behind it; -00:00 is UTC
pub data Zone : Type 0 where
  utc : ℕ → Zone
  ahead : ℕ → ℕ → Zone
  behind : ℕ → ℕ → Zone

pub record StampText : Type 0 where
  pub year : ℕ
  pub month : ℕ
  pub day : ℕ
  pub letter : ℕ
  pub hour : ℕ
  pub minute : ℕ
  pub second : ℕ
  pub fraction : Option (List ℕ)
  pub zone : Zone

-- YYYY-MM-DD
abbrev pub date_text : ℕ → ℕ → ℕ → List ℕ
date_text year month day = digits_text 4 year ++ 45 ∷ (digits_text 2 month ++ 45 ∷ digits_text 2 day)

-- HH:MM
abbrev pub hour_text : ℕ → ℕ → List ℕ
hour_text hour minute = digits_text 2 hour ++ 58 ∷ digits_text 2 minute

abbrev pub fraction_text : Option (List ℕ) → List ℕ
fraction_text None = []
fraction_text (Some digits) = 46 ∷ digits

abbrev pub zone_text : Zone → List ℕ
zone_text (utc letter) = letter ∷ []
zone_text (ahead hour minute) = 43 ∷ hour_text hour minute
zone_text (behind hour minute) = 45 ∷ hour_text hour minute

abbrev pub stamp_text : StampText → List ℕ
stamp_text s =
    date_text s.year s.month s.day
    ++ s.letter ∷ (hour_text s.hour s.minute ++ 58 ∷ (digits_text 2 s.second ++ (fraction_text s.fraction ++ zone_text s.zone)))

abbrev pub IsFraction : Option (List ℕ) → Type 0
IsFraction None = Unit {0}
IsFraction (Some digits) = (1 ≤ length digits) × (length digits ≤ 9) × AllDigits 10 digits

abbrev pub IsZone : Zone → Type 0
IsZone (utc letter) = (letter ≡ 90) ⊎ (letter ≡ 122)
IsZone (ahead hour minute) = (hour ≤ 23) × (minute ≤ 59)
IsZone (behind hour minute) = (hour ≤ 23) × (minute ≤ 59)

-- a day of the calendar
pub record IsDay (year month day : ℕ) : Type 0 where
  pub month_from : 1 ≤ month
  pub month_to : month ≤ 12
  pub day_from : 1 ≤ day
  pub day_to : day ≤ days_in_month (pos year) month

-- years 1 to 9900, a day of the calendar, and no leap second
pub record IsStampText (s : StampText) : Type 0 where
  pub year_from : 1 ≤ s.year
  pub year_to : s.year ≤ 9900
  pub day : IsDay s.year s.month s.day
  pub letter : (s.letter ≡ 84) ⊎ (s.letter ≡ 116)
  pub hour : s.hour ≤ 23
  pub minute : s.minute ≤ 59
  pub second : s.second ≤ 59
  pub fraction : IsFraction s.fraction
  pub zone : IsZone s.zone

-- the fraction in nanoseconds
abbrev pub fraction_nanos : Option (List ℕ) → ℕ
fraction_nanos None = 0
fraction_nanos (Some digits) = digits_value 10 digits * 10 ^ (9 - length digits)

-- the seconds by which the local clock is ahead of UTC
abbrev pub zone_seconds : Zone → ℤ
zone_seconds (utc letter) = pos 0
zone_seconds (ahead hour minute) = pos (hour * 3600 + minute * 60)
zone_seconds (behind hour minute) = neg_ℤ (pos (hour * 3600 + minute * 60))

-- the moment at which a clock `offset` seconds ahead of UTC shows this day and second
abbrev pub moment : ℤ → ℕ → ℕ → ℤ → ℤ
moment day second nanos offset =
    (day *ℤ pos 86_400 +ℤ pos second -ℤ offset) *ℤ pos 1_000_000_000 +ℤ pos nanos

abbrev pub stamp_moment : StampText → ℤ
stamp_moment s =
    moment (days_from_civil (pos s.year) s.month s.day) (s.hour * 3600 + s.minute * 60 + s.second)
    (fraction_nanos s.fraction) (zone_seconds s.zone)

-- the text is a stamp, and it names this moment
pub record IsStampOf (text : List ℕ) (m : ℤ) : Type 0 where
  pub stamp : StampText
  pub is_stamp : IsStampText stamp
  pub text_is : text ≡ stamp_text stamp
  pub moment_is : m ≡ stamp_moment stamp

-- ---- the texts that are printed

-- what a UTC calendar and clock show
pub record Clock : Type 0 where
  pub year : ℕ
  pub month : ℕ
  pub day : ℕ
  pub hour : ℕ
  pub minute : ℕ
  pub second : ℕ
  pub nanos : ℕ

-- four digits of year, so years 0 to 9999
pub record IsClock (c : Clock) : Type 0 where
  pub year : c.year ≤ 9999
  pub day : IsDay c.year c.month c.day
  pub hour : c.hour ≤ 23
  pub minute : c.minute ≤ 59
  pub second : c.second ≤ 59
  pub nanos : c.nanos < 10 ^ 9

abbrev pub clock_moment : Clock → ℤ
clock_moment c =
    moment (days_from_civil (pos c.year) c.month c.day) (c.hour * 3600 + c.minute * 60 + c.second) c.nanos (pos 0)

-- YYYY-MM-DDTHH:MM:SS.fffZ with this many digits of the fraction; further digits are cut off
abbrev pub clock_text : ℕ → Clock → List ℕ
clock_text digits c =
    date_text c.year c.month c.day
    ++ 84 ∷ (hour_text c.hour c.minute ++ 58 ∷ (digits_text 2 c.second ++ 46 ∷ (take digits (digits_text 9 c.nanos) ++ 90 ∷ [])))

-- the text is what is printed for this moment with this many digits of the fraction; callers use 3 or 9
pub record IsPrintedStamp (digits : ℕ) (text : List ℕ) (m : ℤ) : Type 0 where
  pub clock : Clock
  pub is_clock : IsClock clock
  pub moment_is : m ≡ clock_moment clock
  pub text_is : text ≡ clock_text digits clock
