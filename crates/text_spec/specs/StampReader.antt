-- The moment that a stamp names, as a function that reads the text from the left. The laws tie it to `IsStampOf`.
use Rattle.std.specs.Prelude.{ℕ, suc, ◌+◌, ◌-◌, ◌*◌, ◌^◌, ℤ, pos, neg_ℤ, List, [], ◌∷◌, length, drop, take, Bool, ◌&&◌, ◌||◌, ◌==◌, nat_le, if◌then◌else◌, Option, Some, None}
use Rattle.std.specs.Char.{is_ascii_digit}
use Rattle.std.specs.Str.Parse.{digits_value}
use Rattle.jiff_core.specs.Calendar.{days_from_civil, days_in_month}
use Rattle.text_spec.specs.Stamp.{moment}

-- what is read from the left end of a text, and the bytes that follow
abbrev pub Front : Type 0 → Type 0
Front A = Option (A × List ℕ)

infixl 10 ◌>>=◌
abbrev pub ◌>>=◌ : {A B : Type 0} → Option A → (A → Option B) → Option B
None >>= f = None
(Some a) >>= f = f a

unfoldable pub two_digits : List ℕ → Front ℕ
two_digits [] = None
two_digits (a ∷ []) = None
two_digits (a ∷ b ∷ rest) =
    if is_ascii_digit a && is_ascii_digit b then Some ((a - 48) * 10 + (b - 48), rest) else None

-- the byte x or the byte y
unfoldable pub one_of : ℕ → ℕ → List ℕ → Option (List ℕ)
one_of x y [] = None
one_of x y (a ∷ rest) = if (a == x) || (a == y) then Some rest else None

-- a day of the calendar, in the years 1 to 9900
abbrev pub is_day : ℕ → ℕ → ℕ → Bool
is_day year month day =
    nat_le 1 year && nat_le year 9900 && nat_le 1 month && nat_le month 12
    && nat_le 1 day && nat_le day (days_in_month (pos year) month)

-- YYYY-MM-DD, as days since 1970-01-01
unfoldable pub date_at : List ℕ → Front ℤ
date_at text = do
  century ← two_digits text
  year ← two_digits century.1
  after_year ← one_of 45 45 year.1
  month ← two_digits after_year
  after_month ← one_of 45 45 month.1
  day ← two_digits after_month
  if is_day (century.0 * 100 + year.0) month.0 day.0
      then Some (days_from_civil (pos (century.0 * 100 + year.0)) month.0 day.0, day.1) else None

-- HH:MM:SS, as seconds since midnight
unfoldable pub time_at : List ℕ → Front ℕ
time_at text = do
  hour ← two_digits text
  after_hour ← one_of 58 58 hour.1
  minute ← two_digits after_hour
  after_minute ← one_of 58 58 minute.1
  second ← two_digits after_minute
  if nat_le hour.0 23 && nat_le minute.0 59 && nat_le second.0 59
      then Some (hour.0 * 3600 + minute.0 * 60 + second.0, second.1) else None

-- the digits of a fraction, in nanoseconds
abbrev pub nanos_of_digits : List ℕ → ℕ
nanos_of_digits ds = digits_value 10 ds * 10 ^ (9 - length ds)

-- how many digits the text begins with
abbrev pub digit_run : List ℕ → ℕ
digit_run [] = 0
digit_run (x ∷ xs) = if is_ascii_digit x then suc (digit_run xs) else 0

-- nothing, or a dot and 1 to 9 digits
unfoldable pub fraction_at : List ℕ → Front ℕ
fraction_at [] = Some (0, [])
fraction_at (a ∷ rest) =
    let count = digit_run rest in
    if a == 46
    then (if nat_le 1 count && nat_le count 9 then Some (nanos_of_digits (take count rest), drop count rest) else None)
    else Some (0, a ∷ rest)

-- HH:MM, as seconds
unfoldable pub distance_at : List ℕ → Front ℕ
distance_at text = do
  hour ← two_digits text
  after_hour ← one_of 58 58 hour.1
  minute ← two_digits after_hour
  if nat_le hour.0 23 && nat_le minute.0 59 then Some (hour.0 * 3600 + minute.0 * 60, minute.1) else None

-- Z, z, or a sign and HH:MM, as the seconds by which the local clock is ahead of UTC
unfoldable pub offset_at : List ℕ → Front ℤ
offset_at [] = None
offset_at (a ∷ rest) =
    if (a == 90) || (a == 122) then Some (pos 0, rest)
    else (if a == 43 then (distance_at rest >>= (λ d. Some (pos d.0, d.1)))
    else (if a == 45 then (distance_at rest >>= (λ d. Some (neg_ℤ (pos d.0), d.1))) else None))

-- the value, if no bytes follow it
abbrev pub whole : {A : Type 0} → A → List ℕ → Option A
whole a rest = if length rest == 0 then Some a else None

unfoldable pub stamp_of : List ℕ → Option ℤ
stamp_of text = do
  date ← date_at text
  after_date ← one_of 84 116 date.1
  time ← time_at after_date
  fraction ← fraction_at time.1
  offset ← offset_at fraction.1
  whole (moment date.0 time.0 fraction.0 offset.0) offset.1
