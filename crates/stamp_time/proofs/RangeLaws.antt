-- The range of stamps: each stamp lies in it, each moment in it has a stamp, and what callers print lies in that of the printable.
use Rattle.std.proofs.Common.{◌≡◌, inl, ℕ, ◌+◌, ◌-◌, ◌*◌, ◌/◌, ◌%◌, ◌^◌, ◌≤◌, ◌<◌, ℤ, pos, neg_ℤ, ◌+ℤ◌, ◌*ℤ◌, ◌≤ℤ◌, List, length, Option, Some, None, arith, refl, subst, sym}
use Rattle.std.specs.Char.{digit_value}
use Rattle.std.specs.Str.Parse.{digits_value, AllDigits}
use Rattle.std.proofs.lemmas.Int.{by_lt_z}
use Rattle.std.proofs.lemmas.Int.Digits.{digits_value-lt}
use Rattle.jiff_core.specs.Calendar.{days_from_civil, IsCivilDate, IsWithin, IsYear}
use Rattle.jiff_core.proofs.SignedLemmas.{signed_arith}
use Rattle.text_spec.specs.Stamp.{digits_text, Zone, utc, ahead, behind, IsZone, IsFraction, StampText, IsStampText, stamp_text, fraction_nanos, zone_seconds, moment, stamp_moment, IsStampOf}
use Rattle.stamp_time.specs.Range.{IsStampDay, IsStampMoment, IsPrintable, days}
use Rattle.stamp_time.proofs.DigitLemmas.{scaled_under}
use Rattle.stamp_time.proofs.DayLemmas.{stamp_day, year_to}
use Rattle.stamp_time.proofs.Dates.{has_date}
use borrow.Author.Differences.{up, down}
use Rattle.text_spec.proofs.of_plain_laws.Digits.{last_digit}
use Rattle.stamp_time.specs.Limits.{most_days}

-- a moment that a stamp names can be printed
pub stamp_is_printable : (m : ℤ) → IsStampMoment m → IsPrintable m
stamp_is_printable m h = omega (arith, signed_arith)

-- and so can one up to 3,650 days later
pub later_is_printable : (m : ℤ) (n : ℕ) → IsStampMoment m → n ≤ most_days → IsPrintable (m +ℤ days n)
later_is_printable m n h few = omega (arith, signed_arith)

-- ---- each stamp lies in the range

in_range :
    (day : ℤ) (second nanos : ℕ) (offset : ℤ) → IsStampDay day → second < 86_400 → nanos < 10 ^ 9 → IsWithin 86_340 offset
    → IsStampMoment (moment day second nanos offset)
in_range day second nanos offset hd hs hn ho = omega (arith, signed_arith)

nanos_bound : (f : Option (List ℕ)) → IsFraction f → fraction_nanos f < 10 ^ 9
nanos_bound None h = omega arith
nanos_bound (Some ds) h = scaled_under (digits_value 10 ds) (length ds) 9 (digits_value-lt 10 ds h.2) h.1

zone_bound : (z : Zone) → IsZone z → IsWithin 86_340 (zone_seconds z)
zone_bound (utc letter) h = omega (arith, signed_arith)
zone_bound (ahead hour minute) h = omega (arith, signed_arith, h)
zone_bound (behind hour minute) h = omega (arith, signed_arith, h)

named_in_range : (s : StampText) → IsStampText s → IsStampMoment (stamp_moment s)
named_in_range s h =
    let year : IsYear (pos s.year) = omega (arith, signed_arith, h.year_to) in
    let low : pos 1 ≤ℤ pos s.year = omega (arith, signed_arith, h.year_from) in
    let high : pos s.year ≤ℤ pos 9900 = omega (arith, signed_arith, h.year_to) in
    let is = h.day in
    let civil : IsCivilDate (pos s.year) s.month s.day = (year, (is.month_from, is.month_to), (is.day_from, is.day_to)) in
    let day = stamp_day (pos s.year) s.month s.day civil low high in
    let second : s.hour * 3600 + s.minute * 60 + s.second < 86_400 = omega (arith, h.hour, h.minute, h.second) in
    in_range (days_from_civil (pos s.year) s.month s.day) (s.hour * 3600 + s.minute * 60 + s.second) (fraction_nanos s.fraction)
    (zone_seconds s.zone) day second (nanos_bound s.fraction h.fraction) (zone_bound s.zone h.zone)

pub stamp_in_range : (text : List ℕ) (m : ℤ) → IsStampOf text m → IsStampMoment m
stamp_in_range text m h =
    subst (λ (z : ℤ). IsStampMoment z) (sym h.moment_is) (named_in_range h.stamp h.is_stamp)

-- ---- each moment in the range has a stamp

abbrev HasStamp : ℤ → Type 0
HasStamp m = (text : List ℕ) × IsStampOf text m

nine_digits : (n : ℕ) → n < 10 ^ 9 → digits_value 10 (digits_text 9 n) ≡ n
nine_digits n h = simp last_digit (omega arith)

is_low : (n : ℕ) → digit_value (48 + n % 10) < 10
is_low n = omega (arith, last_digit n)

nine_are_digits : (n : ℕ) → AllDigits 10 (digits_text 9 n)
nine_are_digits n =
    let a = n / 10 / 10 / 10 in
    let b = a / 10 / 10 / 10 in (
      is_low (b / 10 / 10),
      (
        is_low (b / 10),
        (
          is_low b,
          (
            is_low (a / 10 / 10),
            (
              is_low (a / 10),
              (
                is_low a,
                (is_low (n / 10 / 10), (is_low (n / 10), (is_low n, tt))),
              ),
            ),
          ),
        ),
      ),
    )

-- the stamp with nine digits, `since` nanoseconds after 0001-01-01T00:00:00 on the clocks of a zone
abbrev stamp_since : (since : ℕ) → Zone → StampText
stamp_since since z =
    let date = has_date (since / 86_400_000_000_000) in
    let second = since / 1_000_000_000 % 86_400 in
    record {
      year = date.year;
      month = date.month;
      day = date.day;
      letter = 84;
      hour = second / 3600;
      minute = second / 60 % 60;
      second = second % 60;
      fraction = Some (digits_text 9 (since % 1_000_000_000));
      zone = z;
    }

stamp_since_is_stamp : (since : ℕ) (z : Zone) → IsZone z → since < 312_413_760_000_000_000_000 → IsStampText (stamp_since since z)
stamp_since_is_stamp since z hz few =
    let date = has_date (since / 86_400_000_000_000) in
    record {
      year_from = date.from;
      year_to = year_to date.year date.month date.day date.is_day.day_from (omega (arith, signed_arith, date.at));
      day = date.is_day;
      letter = inl refl;
      hour = omega arith;
      minute = omega arith;
      second = omega arith;
      fraction = (omega arith, omega arith, nine_are_digits (since % 1_000_000_000));
      zone = hz;
    }

stamp_since_moment :
    (since : ℕ) (z : Zone) (m : ℤ)
    → m +ℤ zone_seconds z *ℤ pos 1_000_000_000 ≡ neg_ℤ (pos 62_135_596_800_000_000_000) +ℤ pos since
    → m ≡ stamp_moment (stamp_since since z)
stamp_since_moment since z m e =
    let date = has_date (since / 86_400_000_000_000) in
    let second = since / 1_000_000_000 % 86_400 in
    let time : second / 3600 * 3600 + second / 60 % 60 * 60 + second % 60 ≡ second = omega arith in
    rw (date.at, time, nine_digits (since % 1_000_000_000) (omega arith)) (omega (arith, signed_arith, e))

stamp_at :
    (since : ℕ) (z : Zone) (m : ℤ) → IsZone z → since < 312_413_760_000_000_000_000
    → m +ℤ zone_seconds z *ℤ pos 1_000_000_000 ≡ neg_ℤ (pos 62_135_596_800_000_000_000) +ℤ pos since → HasStamp m
stamp_at since z m hz few e =
    let s = stamp_since since z in
    (stamp_text s, record { stamp = s; is_stamp = stamp_since_is_stamp since z hz few; text_is = refl; moment_is = stamp_since_moment since z m e })

-- what UTC shows outside the years 1 to 9900 a zone shows inside them
pub has_stamp : (m : ℤ) → IsStampMoment m → HasStamp m
has_stamp m h =
    by_lt_z m (neg_ℤ (pos 62_135_596_800_000_000_000))
    (λ before. stamp_at (up m + 62_135_683_140_000_000_000 - down m) (ahead 23 59) m (omega arith, omega arith) (omega (arith, signed_arith, h, before)) (omega (arith, signed_arith, h, before)))
    (λ from. by_lt_z (pos 250_278_163_199_999_999_999) m
    (λ after. stamp_at (up m + 62_135_510_460_000_000_000 - down m) (behind 23 59) m (omega arith, omega arith) (omega (arith, signed_arith, h, after)) (omega (arith, signed_arith, h, after)))
    (λ to. stamp_at (up m + 62_135_596_800_000_000_000 - down m) (utc 90) m (inl refl) (omega (arith, signed_arith, from, to)) (omega (arith, signed_arith, from, to))))
