-- What is read of a stamp stands there.
use Rattle.std.proofs.Common.{◌≡◌, ◌∙◌, ◌⊎◌, ℕ, ◌+◌, ◌-◌, ◌*◌, ◌/◌, ◌%◌, ◌<◌, ◌≤◌, ℤ, pos, neg_ℤ, List, [], ◌∷◌, ◌++◌, length, take, drop, Bool, true, false, ◌&&◌, ◌||◌, ◌==◌, nat_le, if◌then◌else◌, Option, Some, None, arith, refl, ap, sym}
use Rattle.std.specs.Char.{is_ascii_digit}
use Rattle.std.proofs.lemmas.List.{append-nil, length-take-le, take-append-drop}
use Rattle.jiff_core.specs.Calendar.{days_from_civil, days_in_month}
use Rattle.json_machine.proofs.of_plain_laws.Booleans.{either_is}
use Rattle.json_machine.proofs.of_text_spec.DigitRuns.{digit_run_digits, digit_run_within}
use Rattle.json_machine.proofs.of_text_spec.Fronts.{bound, HasOneOf, one_of-stands, one_of-is}
use Rattle.json_machine.proofs.of_plain_laws.Options.{none_some, when}
use Rattle.json_machine.specs.text_spec.Stamp.{digits_text, Zone, utc, ahead, behind, date_text, hour_text, fraction_text, zone_text, IsFraction, IsZone, IsDay, fraction_nanos, zone_seconds, moment, IsStampOf}
use Rattle.json_machine.specs.text_spec.StampReader.{Front, ◌>>=◌, two_digits, one_of, is_day, date_at, time_at, nanos_of_digits, digit_run, fraction_at, distance_at, offset_at, whole, stamp_of}

-- ---- digits and separators

record HasTwoDigits (text : List ℕ) (p : ℕ × List ℕ) : Type 0 where
  small : p.0 < 100
  text_is : text ≡ digits_text 2 p.0 ++ p.1

two_digits-stand : (text : List ℕ) (p : ℕ × List ℕ) → two_digits text ≡ Some p → HasTwoDigits text p
unfolding two_digits
two_digits-stand [] p h = absurd (none_some p h)
two_digits-stand (a ∷ []) p h = absurd (none_some p h)
two_digits-stand (a ∷ b ∷ rest) p h =
    let w = when (is_ascii_digit a && is_ascii_digit b) ((a - 48) * 10 + (b - 48), rest) p h in
    let low : 48 ≤ a = grind arith in
    let high : a ≤ 57 = grind arith in
    let low₂ : 48 ≤ b = grind arith in
    let high₂ : b ≤ 57 = grind arith in
    let value : (a - 48) * 10 + (b - 48) ≡ p.0 = ap (λ q. q.0) w.1 in
    let behind_it : rest ≡ p.1 = ap (λ q. q.1) w.1 in
    let first : a ≡ 48 + p.0 / 10 % 10 = omega arith in
    let second : b ≡ 48 + p.0 % 10 = omega arith in
    record { small = omega arith; text_is = λ i. first i ∷ second i ∷ behind_it i }

-- ---- the date

record HasDate (text : List ℕ) (p : ℤ × List ℕ) : Type 0 where
  year : ℕ
  month : ℕ
  day : ℕ
  from : 1 ≤ year
  to : year ≤ 9900
  is_day : IsDay year month day
  text_is : text ≡ date_text year month day ++ p.1
  value_is : p.0 ≡ days_from_civil (pos year) month day

IsDay-is_day : (year month day : ℕ) → is_day year month day ≡ true → (1 ≤ year) × (year ≤ 9900) × IsDay year month day
IsDay-is_day year month day h =
    let from : 1 ≤ year = grind arith in
    let to : year ≤ 9900 = grind arith in
    let month_from : 1 ≤ month = grind arith in
    let month_to : month ≤ 12 = grind arith in
    let day_from : 1 ≤ day = grind arith in
    let day_to : day ≤ days_in_month (pos year) month = grind arith in
    (from, to, record { month_from = month_from; month_to = month_to; day_from = day_from; day_to = day_to })

-- two digits and two more are the four of a year
four_digits :
    (century year : ℕ) (r : List ℕ) → century < 100 → year < 100
    → digits_text 2 century ++ (digits_text 2 year ++ r) ≡ digits_text 4 (century * 100 + year) ++ r
four_digits century year r h k =
    let n = century * 100 + year in
    let a : century / 10 % 10 ≡ n / 10 / 10 / 10 % 10 = omega arith in
    let b : century % 10 ≡ n / 10 / 10 % 10 = omega arith in
    let c : year / 10 % 10 ≡ n / 10 % 10 = omega arith in
    let d : year % 10 ≡ n % 10 = omega arith in
    λ i. (48 + a i) ∷ (48 + b i) ∷ (48 + c i) ∷ (48 + d i) ∷ r

date_at-stands : (text : List ℕ) (p : ℤ × List ℕ) → date_at text ≡ Some p → HasDate text p
unfolding date_at
date_at-stands text p h =
    let a = bound (two_digits text) _ p h in
    let b = bound (two_digits a.0.1) _ p a.2 in
    let c = bound (one_of 45 45 b.0.1) _ p b.2 in
    let d = bound (two_digits c.0) _ p c.2 in
    let e = bound (one_of 45 45 d.0.1) _ p d.2 in
    let f = bound (two_digits e.0) _ p e.2 in
    let year = a.0.0 * 100 + b.0.0 in
    let w = when (is_day year d.0.0 f.0.0) (days_from_civil (pos year) d.0.0 f.0.0, f.0.1) p f.2 in
    let is = IsDay-is_day year d.0.0 f.0.0 w.0 in
    let first = two_digits-stand text a.0 a.1 in
    let second = two_digits-stand a.0.1 b.0 b.1 in
    let rest = one_of-is 45 b.0.1 c.0 c.1
    ∙ ap (λ r. 45 ∷ r) ((two_digits-stand c.0 d.0 d.1).text_is
    ∙ ap (λ r. digits_text 2 d.0.0 ++ r) (one_of-is 45 d.0.1 e.0 e.1
    ∙ ap (λ r. 45 ∷ r) ((two_digits-stand e.0 f.0 f.1).text_is
    ∙ ap (λ r. digits_text 2 f.0.0 ++ r) (ap (λ q. q.1) w.1)))) in
    record {
      year = year;
      month = d.0.0;
      day = f.0.0;
      from = is.0;
      to = is.1;
      is_day = is.2;
      text_is = first.text_is
          ∙ ap (λ r. digits_text 2 a.0.0 ++ r) (second.text_is ∙ ap (λ r. digits_text 2 b.0.0 ++ r) rest)
          ∙ four_digits a.0.0 b.0.0 (45 ∷ (digits_text 2 d.0.0 ++ 45 ∷ (digits_text 2 f.0.0 ++ p.1))) first.small second.small;
      value_is = sym (ap (λ q. q.0) w.1);
    }

-- ---- the time

record HasTime (text : List ℕ) (p : ℕ × List ℕ) : Type 0 where
  hour : ℕ
  minute : ℕ
  second : ℕ
  hour_to : hour ≤ 23
  minute_to : minute ≤ 59
  second_to : second ≤ 59
  text_is : text ≡ hour_text hour minute ++ 58 ∷ (digits_text 2 second ++ p.1)
  value_is : p.0 ≡ hour * 3600 + minute * 60 + second

time_at-stands : (text : List ℕ) (p : ℕ × List ℕ) → time_at text ≡ Some p → HasTime text p
unfolding time_at
time_at-stands text p h =
    let a = bound (two_digits text) _ p h in
    let b = bound (one_of 58 58 a.0.1) _ p a.2 in
    let c = bound (two_digits b.0) _ p b.2 in
    let d = bound (one_of 58 58 c.0.1) _ p c.2 in
    let e = bound (two_digits d.0) _ p d.2 in
    let w = when (nat_le a.0.0 23 && nat_le c.0.0 59 && nat_le e.0.0 59) (a.0.0 * 3600 + c.0.0 * 60 + e.0.0, e.0.1) p e.2 in
    let hour_to : a.0.0 ≤ 23 = grind arith in
    let minute_to : c.0.0 ≤ 59 = grind arith in
    let second_to : e.0.0 ≤ 59 = grind arith in
    record {
      hour = a.0.0;
      minute = c.0.0;
      second = e.0.0;
      hour_to = hour_to;
      minute_to = minute_to;
      second_to = second_to;
      text_is = (two_digits-stand text a.0 a.1).text_is
          ∙ ap (λ r. digits_text 2 a.0.0 ++ r) (one_of-is 58 a.0.1 b.0 b.1
          ∙ ap (λ r. 58 ∷ r) ((two_digits-stand b.0 c.0 c.1).text_is
          ∙ ap (λ r. digits_text 2 c.0.0 ++ r) (one_of-is 58 c.0.1 d.0 d.1
          ∙ ap (λ r. 58 ∷ r) ((two_digits-stand d.0 e.0 e.1).text_is
          ∙ ap (λ r. digits_text 2 e.0.0 ++ r) (ap (λ q. q.1) w.1)))));
      value_is = sym (ap (λ q. q.0) w.1);
    }

-- ---- the fraction

record HasFraction (text : List ℕ) (p : ℕ × List ℕ) : Type 0 where
  fraction : Option (List ℕ)
  is_fraction : IsFraction fraction
  text_is : text ≡ fraction_text fraction ++ p.1
  value_is : p.0 ≡ fraction_nanos fraction

-- what is read behind a dot
abbrev digits_at : List ℕ → Front ℕ
digits_at rest =
    if nat_le 1 (digit_run rest) && nat_le (digit_run rest) 9
    then Some (nanos_of_digits (take (digit_run rest) rest), drop (digit_run rest) rest) else None

digits-stand : (rest : List ℕ) (p : ℕ × List ℕ) → digits_at rest ≡ Some p → HasFraction (46 ∷ rest) p
digits-stand rest p h =
    let ds = take (digit_run rest) rest in
    let w = when (nat_le 1 (digit_run rest) && nat_le (digit_run rest) 9) (nanos_of_digits ds, drop (digit_run rest) rest) p h in
    let count : length ds ≡ digit_run rest = length-take-le (digit_run rest) rest (digit_run_within rest) in
    let some : 1 ≤ digit_run rest = grind arith in
    let few : digit_run rest ≤ 9 = grind arith in
    record {
      fraction = Some ds;
      is_fraction = (omega (arith, count, some), omega (arith, count, few), digit_run_digits rest);
      text_is = ap (λ r. 46 ∷ r) (sym (take-append-drop (digit_run rest) rest) ∙ ap (λ r. ds ++ r) (ap (λ q. q.1) w.1));
      value_is = sym (ap (λ q. q.0) w.1);
    }

nothing-stands : (text : List ℕ) (p : ℕ × List ℕ) → Some (0, text) ≡ Some p → HasFraction text p
nothing-stands text p h =
    let same : (0, text) ≡ p = cc in
    record { fraction = None; is_fraction = tt; text_is = ap (λ q. q.1) same; value_is = sym (ap (λ q. q.0) same) }

dot_step :
    (a : ℕ) (rest : List ℕ) (p : ℕ × List ℕ) (b : Bool) → (b ≡ true → a ≡ 46)
    → (if b then digits_at rest else Some (0, a ∷ rest)) ≡ Some p → HasFraction (a ∷ rest) p
dot_step a rest p true dot h = rw (dot refl) (digits-stand rest p h)
dot_step a rest p false dot h = nothing-stands (a ∷ rest) p h

is_byte : (a x : ℕ) → a == x ≡ true → a ≡ x
is_byte a x h = grind arith

fraction_at-stands : (text : List ℕ) (p : ℕ × List ℕ) → fraction_at text ≡ Some p → HasFraction text p
unfolding fraction_at
fraction_at-stands [] p h = nothing-stands [] p h
fraction_at-stands (a ∷ rest) p h = dot_step a rest p (a == 46) (is_byte a 46) h

-- ---- the zone

record HasDistance (text : List ℕ) (p : ℕ × List ℕ) : Type 0 where
  hour : ℕ
  minute : ℕ
  hour_to : hour ≤ 23
  minute_to : minute ≤ 59
  text_is : text ≡ hour_text hour minute ++ p.1
  value_is : p.0 ≡ hour * 3600 + minute * 60

distance_at-stands : (text : List ℕ) (p : ℕ × List ℕ) → distance_at text ≡ Some p → HasDistance text p
unfolding distance_at
distance_at-stands text p h =
    let a = bound (two_digits text) _ p h in
    let b = bound (one_of 58 58 a.0.1) _ p a.2 in
    let c = bound (two_digits b.0) _ p b.2 in
    let w = when (nat_le a.0.0 23 && nat_le c.0.0 59) (a.0.0 * 3600 + c.0.0 * 60, c.0.1) p c.2 in
    let hour_to : a.0.0 ≤ 23 = grind arith in
    let minute_to : c.0.0 ≤ 59 = grind arith in
    record {
      hour = a.0.0;
      minute = c.0.0;
      hour_to = hour_to;
      minute_to = minute_to;
      text_is = (two_digits-stand text a.0 a.1).text_is
          ∙ ap (λ r. digits_text 2 a.0.0 ++ r) (one_of-is 58 a.0.1 b.0 b.1
          ∙ ap (λ r. 58 ∷ r) ((two_digits-stand b.0 c.0 c.1).text_is
          ∙ ap (λ r. digits_text 2 c.0.0 ++ r) (ap (λ q. q.1) w.1)));
      value_is = sym (ap (λ q. q.0) w.1);
    }

record HasZone (text : List ℕ) (p : ℤ × List ℕ) : Type 0 where
  zone : Zone
  is_zone : IsZone zone
  text_is : text ≡ zone_text zone ++ p.1
  value_is : p.0 ≡ zone_seconds zone

utc-stands : (a : ℕ) (rest : List ℕ) (p : ℤ × List ℕ) → (a ≡ 90) ⊎ (a ≡ 122) → Some (pos 0, rest) ≡ Some p → HasZone (a ∷ rest) p
utc-stands a rest p letter h =
    let same : (pos 0, rest) ≡ p = cc in
    record { zone = utc a; is_zone = letter; text_is = λ i. a ∷ (same i).1; value_is = sym (ap (λ q. q.0) same) }

-- what is read behind a sign
abbrev ahead_at : List ℕ → Front ℤ
ahead_at rest = distance_at rest >>= (λ d. Some (pos d.0, d.1))

abbrev behind_at : List ℕ → Front ℤ
behind_at rest = distance_at rest >>= (λ d. Some (neg_ℤ (pos d.0), d.1))

-- what is read of a byte that is a minus, or a sign
abbrev minus_at : ℕ → List ℕ → Front ℤ
minus_at a rest = if a == 45 then behind_at rest else None

abbrev signed_at : ℕ → List ℕ → Front ℤ
signed_at a rest = if a == 43 then ahead_at rest else minus_at a rest

ahead-stands : (rest : List ℕ) (p : ℤ × List ℕ) → ahead_at rest ≡ Some p → HasZone (43 ∷ rest) p
ahead-stands rest p h =
    let a = bound (distance_at rest) (λ d. Some (pos d.0, d.1)) p h in
    let found = distance_at-stands rest a.0 a.1 in
    let same : (pos a.0.0, a.0.1) ≡ p = cc in
    record {
      zone = ahead found.hour found.minute;
      is_zone = (found.hour_to, found.minute_to);
      text_is = ap (λ r. 43 ∷ r) (found.text_is ∙ ap (λ r. hour_text found.hour found.minute ++ r) (ap (λ q. q.1) same));
      value_is = sym (ap (λ q. q.0) same) ∙ ap pos found.value_is;
    }

behind-stands : (rest : List ℕ) (p : ℤ × List ℕ) → behind_at rest ≡ Some p → HasZone (45 ∷ rest) p
behind-stands rest p h =
    let a = bound (distance_at rest) (λ d. Some (neg_ℤ (pos d.0), d.1)) p h in
    let found = distance_at-stands rest a.0 a.1 in
    let same : (neg_ℤ (pos a.0.0), a.0.1) ≡ p = cc in
    record {
      zone = behind found.hour found.minute;
      is_zone = (found.hour_to, found.minute_to);
      text_is = ap (λ r. 45 ∷ r) (found.text_is ∙ ap (λ r. hour_text found.hour found.minute ++ r) (ap (λ q. q.1) same));
      value_is = sym (ap (λ q. q.0) same) ∙ ap (λ n. neg_ℤ (pos n)) found.value_is;
    }

minus_step :
    (a : ℕ) (rest : List ℕ) (p : ℤ × List ℕ) (b : Bool) → (b ≡ true → a ≡ 45) → (if b then behind_at rest else None) ≡ Some p
    → HasZone (a ∷ rest) p
minus_step a rest p true sign h = rw (sign refl) (behind-stands rest p h)
minus_step a rest p false sign h = absurd (none_some p h)

plus_step :
    (a : ℕ) (rest : List ℕ) (p : ℤ × List ℕ) (b : Bool) → (b ≡ true → a ≡ 43)
    → (if b then ahead_at rest else minus_at a rest) ≡ Some p → HasZone (a ∷ rest) p
plus_step a rest p true sign h = rw (sign refl) (ahead-stands rest p h)
plus_step a rest p false sign h = minus_step a rest p (a == 45) (is_byte a 45) h

utc_step :
    (a : ℕ) (rest : List ℕ) (p : ℤ × List ℕ) (b : Bool) → (b ≡ true → (a ≡ 90) ⊎ (a ≡ 122))
    → (if b then Some (pos 0, rest) else signed_at a rest) ≡ Some p → HasZone (a ∷ rest) p
utc_step a rest p true letter h = utc-stands a rest p (letter refl) h
utc_step a rest p false letter h = plus_step a rest p (a == 43) (is_byte a 43) h

offset_at-stands : (text : List ℕ) (p : ℤ × List ℕ) → offset_at text ≡ Some p → HasZone text p
unfolding offset_at
offset_at-stands [] p h = absurd (none_some p h)
offset_at-stands (a ∷ rest) p h = utc_step a rest p ((a == 90) || (a == 122)) (either_is a 90 122) h

-- ---- the whole

whole-stands : {A : Type 0} (a b : A) (rest : List ℕ) → whole a rest ≡ Some b → (rest ≡ []) × (a ≡ b)
whole-stands a b [] h = (refl, cc)
whole-stands a b (x ∷ rest) h =
    let no : length (x ∷ rest) == 0 ≡ false = grind arith in
    absurd (none_some b (rw no at h))

-- the fields that stand one behind the other are a stamp
assembled :
    (text after_date : List ℕ) (d : ℤ × List ℕ) (t f : ℕ × List ℕ) (z : ℤ × List ℕ)
    → HasDate text d → HasOneOf 84 116 d.1 after_date → HasTime after_date t → HasFraction t.1 f → HasZone f.1 z → z.1 ≡ [] → IsStampOf text (moment d.0 t.0 f.0 z.0)
assembled text after_date d t f z date letter time fraction zone end =
    let last : f.1 ≡ zone_text zone.zone = zone.text_is ∙ (ap (λ r. zone_text zone.zone ++ r) end ∙ append-nil (zone_text zone.zone)) in
    record {
      stamp = record {
        year = date.year;
        month = date.month;
        day = date.day;
        letter = letter.letter;
        hour = time.hour;
        minute = time.minute;
        second = time.second;
        fraction = fraction.fraction;
        zone = zone.zone;
      };
      is_stamp = record {
        year_from = date.from;
        year_to = date.to;
        day = date.is_day;
        letter = letter.letter_is;
        hour = time.hour_to;
        minute = time.minute_to;
        second = time.second_to;
        fraction = fraction.is_fraction;
        zone = zone.is_zone;
      };
      text_is = date.text_is
          ∙ ap (λ r. date_text date.year date.month date.day ++ r) (letter.text_is
          ∙ ap (λ r. letter.letter ∷ r) (time.text_is
          ∙ ap (λ r. hour_text time.hour time.minute ++ 58 ∷ (digits_text 2 time.second ++ r)) (fraction.text_is
          ∙ ap (λ r. fraction_text fraction.fraction ++ r) last)));
      moment_is = λ i. moment (date.value_is i) (time.value_is i) (fraction.value_is i) (zone.value_is i);
    }

pub stamp_of-stands : (text : List ℕ) (m : ℤ) → stamp_of text ≡ Some m → IsStampOf text m
unfolding stamp_of
stamp_of-stands text m h =
    let a = bound (date_at text) _ m h in
    let b = bound (one_of 84 116 a.0.1) _ m a.2 in
    let c = bound (time_at b.0) _ m b.2 in
    let d = bound (fraction_at c.0.1) _ m c.2 in
    let e = bound (offset_at d.0.1) _ m d.2 in
    let w = whole-stands (moment a.0.0 c.0.0 d.0.0 e.0.0) m e.0.1 e.2 in
    let date = date_at-stands text a.0 a.1 in
    let letter = one_of-stands 84 116 a.0.1 b.0 b.1 in
    let time = time_at-stands b.0 c.0 c.1 in
    let fraction = fraction_at-stands c.0.1 d.0 d.1 in
    let zone = offset_at-stands d.0.1 e.0 e.1 in
    let stands = assembled text b.0 a.0 c.0 d.0 e.0 date letter time fraction zone w.0 in
    rw (← w.1) stands
