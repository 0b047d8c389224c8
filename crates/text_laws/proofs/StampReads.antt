-- The text of a stamp is read as the stamp.
use Rattle.std.proofs.Common.{◌≡◌, ◌⊎◌, inl, inr, ℕ, suc, ◌+◌, ◌-◌, ◌*◌, ◌/◌, ◌%◌, ◌<◌, ◌≤◌, pos, List, [], ◌∷◌, ◌++◌, length, true, false, ◌&&◌, ◌==◌, nat_le, eqb, Option, Some, None, arith, refl, ap}
use Rattle.std.specs.Char.{is_ascii_digit}
use Rattle.std.specs.Str.Parse.{AllDigits}
use Rattle.jiff_core.specs.Calendar.{days_from_civil, days_in_month}
use Rattle.jiff_core.proofs.CalendarLemmas.{days_in_month_bounds}
use Rattle.json_machine.proofs.of_plain_laws.Lists.{take-whole, drop-whole}
use Rattle.json_machine.proofs.of_plain_laws.Digits.{digit_is}
use Rattle.json_machine.specs.text_spec.Stamp.{digits_text, Zone, utc, ahead, behind, date_text, hour_text, fraction_text, zone_text, stamp_text, IsFraction, IsZone, IsDay, IsStampText, StampText, fraction_nanos, zone_seconds, stamp_moment}
use Rattle.json_machine.specs.text_spec.StampReader.{two_digits, one_of, is_day, date_at, time_at, digit_run, fraction_at, distance_at, offset_at, stamp_of}

is_digit : (n : ℕ) → n < 10 → is_ascii_digit (48 + n) ≡ true
is_digit n h = grind arith

-- two digits of a number, wherever in it
two_digits-written : (a b n : ℕ) (r : List ℕ) → a < 10 → b < 10 → n ≡ a * 10 + b → two_digits ((48 + a) ∷ (48 + b) ∷ r) ≡ Some (n, r)
unfolding two_digits
two_digits-written a b n r ha hb e =
    let value : (48 + a - 48) * 10 + (48 + b - 48) ≡ n = omega arith in
    rw (is_digit a ha, is_digit b hb, value) refl

one_of-first : (x y : ℕ) (r : List ℕ) → one_of x y (x ∷ r) ≡ Some r
unfolding one_of
one_of-first x y r = let same : eqb x x ≡ true = grind arith in rw same refl

is_day-IsDay : (year month day : ℕ) → 1 ≤ year → year ≤ 9900 → IsDay year month day → is_day year month day ≡ true
is_day-IsDay year month day low high h = grind arith

-- two digits in their usual place
two_digits-text : (n : ℕ) (r : List ℕ) → n < 100 → two_digits (digits_text 2 n ++ r) ≡ Some (n, r)
two_digits-text n r h = two_digits-written (n / 10 % 10) (n % 10) n r (omega arith) (omega arith) (omega arith)

date_at-date_text :
    (year month day : ℕ) (r : List ℕ) → 1 ≤ year → year ≤ 9900 → IsDay year month day
    → date_at (date_text year month day ++ r) ≡ Some (days_from_civil (pos year) month day, r)
unfolding date_at
date_at-date_text year month day r low high h =
    let months = h.month_to in
    let days : days_in_month (pos year) month ≤ 31 = (days_in_month_bounds (pos year) month).0 in
    let last = h.day_to in
    let back : year / 100 * 100 + year % 100 ≡ year = omega arith in
    rw (two_digits-written (year / 10 / 10 / 10 % 10) (year / 10 / 10 % 10) (year / 100) _ (omega arith) (omega arith) (omega arith))
    (rw (two_digits-written (year / 10 % 10) (year % 10) (year % 100) _ (omega arith) (omega arith) (omega arith))
    (rw (one_of-first 45 45 (digits_text 2 month ++ 45 ∷ (digits_text 2 day ++ r)))
    (rw (two_digits-text month (45 ∷ (digits_text 2 day ++ r)) (omega arith))
    (rw (one_of-first 45 45 (digits_text 2 day ++ r))
    (rw (two_digits-text day r (omega arith), back, is_day-IsDay year month day low high h) refl)))))

time_at-time_text :
    (hour minute second : ℕ) (r : List ℕ) → hour ≤ 23 → minute ≤ 59 → second ≤ 59
    → time_at (hour_text hour minute ++ 58 ∷ (digits_text 2 second ++ r)) ≡ Some (hour * 3600 + minute * 60 + second, r)
unfolding time_at
time_at-time_text hour minute second r h m s =
    let within : nat_le hour 23 && nat_le minute 59 && nat_le second 59 ≡ true = grind arith in
    rw (two_digits-text hour (58 ∷ (digits_text 2 minute ++ 58 ∷ (digits_text 2 second ++ r))) (omega arith))
    (rw (one_of-first 58 58 (digits_text 2 minute ++ 58 ∷ (digits_text 2 second ++ r)))
    (rw (two_digits-text minute (58 ∷ (digits_text 2 second ++ r)) (omega arith))
    (rw (one_of-first 58 58 (digits_text 2 second ++ r))
    (rw (two_digits-text second r (omega arith), within) refl))))

distance_at-hour_text :
    (hour minute : ℕ) (r : List ℕ) → hour ≤ 23 → minute ≤ 59
    → distance_at (hour_text hour minute ++ r) ≡ Some (hour * 3600 + minute * 60, r)
unfolding distance_at
distance_at-hour_text hour minute r h m =
    let within : nat_le hour 23 && nat_le minute 59 ≡ true = grind arith in
    rw (two_digits-text hour (58 ∷ (digits_text 2 minute ++ r)) (omega arith))
    (rw (one_of-first 58 58 (digits_text 2 minute ++ r))
    (rw (two_digits-text minute r (omega arith), within) refl))

offset_at-zone_text : (z : Zone) → IsZone z → offset_at (zone_text z) ≡ Some (zone_seconds z, [])
unfolding offset_at
offset_at-zone_text (utc letter) (inl e) = rw e refl
offset_at-zone_text (utc letter) (inr e) = rw e refl
offset_at-zone_text (ahead hour minute) h = rw (distance_at-hour_text hour minute [] h.0 h.1) refl
offset_at-zone_text (behind hour minute) h = rw (distance_at-hour_text hour minute [] h.0 h.1) refl

digit_run-append : (ds : List ℕ) (a : ℕ) (r : List ℕ) → AllDigits 10 ds → is_ascii_digit a ≡ false → digit_run (ds ++ a ∷ r) ≡ length ds
digit_run-append [] a r h stop = rw stop refl
digit_run-append (d ∷ ds) a r h stop = rw (digit_is d h.0) (ap suc (digit_run-append ds a r h.1 stop))

-- the fraction ends before a byte that is neither a digit nor a dot
fraction_at-fraction_text :
    (f : Option (List ℕ)) (a : ℕ) (r : List ℕ) → IsFraction f → is_ascii_digit a ≡ false → a == 46 ≡ false
    → fraction_at (fraction_text f ++ a ∷ r) ≡ Some (fraction_nanos f, a ∷ r)
unfolding fraction_at
fraction_at-fraction_text None a r h stop no_dot = rw no_dot refl
fraction_at-fraction_text (Some ds) a r h stop no_dot =
    let fits : nat_le 1 (length ds) && nat_le (length ds) 9 ≡ true = grind arith in
    rw (digit_run-append ds a r h.2 stop, fits, take-whole ds (a ∷ r), drop-whole ds (a ∷ r)) refl

before_zone :
    (f : Option (List ℕ)) (z : Zone) → IsFraction f → IsZone z
    → fraction_at (fraction_text f ++ zone_text z) ≡ Some (fraction_nanos f, zone_text z)
before_zone f (utc letter) h (inl e) = rw e (fraction_at-fraction_text f 90 [] h refl refl)
before_zone f (utc letter) h (inr e) = rw e (fraction_at-fraction_text f 122 [] h refl refl)
before_zone f (ahead hour minute) h k = fraction_at-fraction_text f 43 (hour_text hour minute) h refl refl
before_zone f (behind hour minute) h k = fraction_at-fraction_text f 45 (hour_text hour minute) h refl refl

letter_read : (letter : ℕ) (r : List ℕ) → (letter ≡ 84) ⊎ (letter ≡ 116) → one_of 84 116 (letter ∷ r) ≡ Some r
unfolding one_of
letter_read letter r (inl e) = rw e refl
letter_read letter r (inr e) = rw e refl

pub stamp_of-stamp_text : (s : StampText) → IsStampText s → stamp_of (stamp_text s) ≡ Some (stamp_moment s)
unfolding stamp_of
stamp_of-stamp_text s h =
    let zone = zone_text s.zone in
    let fraction = fraction_text s.fraction ++ zone in
    let time = hour_text s.hour s.minute ++ 58 ∷ (digits_text 2 s.second ++ fraction) in
    rw (date_at-date_text s.year s.month s.day (s.letter ∷ time) h.year_from h.year_to h.day)
    (rw (letter_read s.letter time h.letter)
    (rw (time_at-time_text s.hour s.minute s.second fraction h.hour h.minute h.second)
    (rw (before_zone s.fraction s.zone h.fraction h.zone)
    (rw (offset_at-zone_text s.zone h.zone) refl))))
