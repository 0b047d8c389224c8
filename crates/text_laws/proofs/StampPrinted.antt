-- Printed stamps: what they are read as, and what they tell.
use Rattle.std.proofs.Common.{◌≡◌, ◌∙◌, inl, ℕ, ◌+◌, ◌-◌, ◌*◌, ◌/◌, ◌%◌, ◌^◌, ◌<◌, ◌≤◌, ℤ, pos, List, [], ◌∷◌, ◌++◌, take, drop, get_or, Some, arith, refl, ap, sym, pow-add}
use Rattle.std.specs.Str.Parse.{digits_value}
use Rattle.std.proofs.lemmas.List.{append_cancel_right}
use Rattle.std.proofs.Math.Nat.{mul-le-mul_right}
use Rattle.jiff_core.specs.Calendar.{days_from_civil}
use Rattle.jiff_core.proofs.SignedLemmas.{signed_arith}
use Rattle.jiff_core.proofs.CalendarLemmas.{days_in_month_bounds}
use Rattle.json_machine.specs.text_spec.Stamp.{digits_text, utc, date_text, hour_text, IsFraction, fraction_nanos, moment, IsStampOf, IsDay, Clock, IsClock, clock_text, clock_moment, IsPrintedStamp}
use Rattle.text_laws.specs.StampLaws.{cut}
use Rattle.text_laws.proofs.StampDigits.{length-digits_text, AllDigits-digits_text, digits_value-digits_text, front, front-back, take-digits_text}
use Rattle.text_laws.proofs.StampClocks.{cut-moment, SameClock, same_clock}

-- what is left of nine digits is short
front_bound : (digits k n : ℕ) → digits + k ≡ 9 → n < 10 ^ 9 → front k n < 10 ^ digits
front_bound digits k n nine h =
    let power : 10 ^ digits * 10 ^ k ≡ 10 ^ 9 = sym (pow-add 10 digits k) ∙ ap (λ x. 10 ^ x) nine in
    let no : 10 ^ digits ≤ front k n → ⊥ = λ over.
    (let more : 10 ^ digits * 10 ^ k ≤ front k n * 10 ^ k = mul-le-mul_right (10 ^ k) over in omega (arith, more, power, front-back k n, h)) in
    omega (arith, no)

-- ---- a printed stamp is a stamp

shown_digits : (digits n : ℕ) → digits ≤ 9 → take digits (digits_text 9 n) ≡ digits_text digits (front (9 - digits) n)
shown_digits digits n few = take-digits_text digits (9 - digits) 9 n (omega arith)

shown_nanos :
    (digits n : ℕ) → digits ≤ 9 → n < 10 ^ 9
    → fraction_nanos (Some (digits_text digits (front (9 - digits) n))) ≡ front (9 - digits) n * 10 ^ (9 - digits)
shown_nanos digits n few h =
    let nine : digits + (9 - digits) ≡ 9 = omega arith in
    rw (digits_value-digits_text digits (front (9 - digits) n) (front_bound digits (9 - digits) n nine h), length-digits_text digits (front (9 - digits) n)) refl

shown_fraction : (digits n : ℕ) → 1 ≤ digits → digits ≤ 9 → IsFraction (Some (digits_text digits n))
shown_fraction digits n some few =
    let size = length-digits_text digits n in
    (omega (arith, size), omega (arith, size), AllDigits-digits_text digits n)

pub printed_is_stamp :
    (digits : ℕ) (c : Clock) → IsClock c → 1 ≤ digits → digits ≤ 9 → 1 ≤ c.year → c.year ≤ 9900
    → IsStampOf (clock_text digits c) (cut digits (clock_moment c))
printed_is_stamp digits c h some few from to =
    let n = front (9 - digits) c.nanos in
    let date = days_from_civil (pos c.year) c.month c.day in
    let time = c.hour * 3600 + c.minute * 60 + c.second in
    record {
      stamp = record {
        year = c.year;
        month = c.month;
        day = c.day;
        letter = 84;
        hour = c.hour;
        minute = c.minute;
        second = c.second;
        fraction = Some (digits_text digits n);
        zone = utc 90;
      };
      is_stamp = record {
        year_from = from;
        year_to = to;
        day = h.day;
        letter = inl refl;
        hour = h.hour;
        minute = h.minute;
        second = h.second;
        fraction = shown_fraction digits n some few;
        zone = inl refl;
      };
      text_is = ap (λ ds. date_text c.year c.month c.day ++ 84 ∷ (hour_text c.hour c.minute ++ 58 ∷ (digits_text 2 c.second ++ 46 ∷ (ds ++ 90 ∷ [])))) (shown_digits digits c.nanos few);
      moment_is = cut-moment digits date time c.nanos few ∙ ap (λ nanos. moment date time nanos (pos 0)) (sym (shown_nanos digits c.nanos few h.nanos));
    }

-- ---- what the text tells

record SameShown (digits : ℕ) (a b : Clock) : Type 0 where
  year : a.year ≡ b.year
  month : a.month ≡ b.month
  day : a.day ≡ b.day
  hour : a.hour ≡ b.hour
  minute : a.minute ≡ b.minute
  second : a.second ≡ b.second
  fraction : front (9 - digits) a.nanos ≡ front (9 - digits) b.nanos

at : (k : ℕ) (s t : List ℕ) → s ≡ t → get_or s k 0 ≡ get_or t k 0
at k s t e = ap (λ l. get_or l k 0) e

same_digits : (width n m : ℕ) → n < 10 ^ width → m < 10 ^ width → digits_text width n ≡ digits_text width m → n ≡ m
same_digits width n m h k e =
    sym (digits_value-digits_text width n h) ∙ ap (λ ds. digits_value 10 ds) e ∙ digits_value-digits_text width m k

same_fraction :
    (digits n m : ℕ) → digits ≤ 9 → n < 10 ^ 9 → m < 10 ^ 9
    → take digits (digits_text 9 n) ++ 90 ∷ [] ≡ take digits (digits_text 9 m) ++ 90 ∷ []
    → front (9 - digits) n ≡ front (9 - digits) m
same_fraction digits n m few h k e =
    let nine : digits + (9 - digits) ≡ 9 = omega arith in
    same_digits digits (front (9 - digits) n) (front (9 - digits) m) (front_bound digits (9 - digits) n nine h) (front_bound digits (9 - digits) m nine k)
    (sym (shown_digits digits n few) ∙ append_cancel_right (take digits (digits_text 9 n)) (take digits (digits_text 9 m)) (90 ∷ []) e ∙ shown_digits digits m few)

-- the two digits at a place of the text
two_same : (n m : ℕ) → n < 100 → m < 100 → 48 + n / 10 % 10 ≡ 48 + m / 10 % 10 → 48 + n % 10 ≡ 48 + m % 10 → n ≡ m
two_same n m h k tens ones = omega arith

four_same :
    (n m : ℕ) → n ≤ 9999 → m ≤ 9999 → 48 + n / 10 / 10 / 10 % 10 ≡ 48 + m / 10 / 10 / 10 % 10
    → 48 + n / 10 / 10 % 10 ≡ 48 + m / 10 / 10 % 10 → 48 + n / 10 % 10 ≡ 48 + m / 10 % 10 → 48 + n % 10 ≡ 48 + m % 10 → n ≡ m
four_same n m h k thousands hundreds tens ones = omega arith

day_bound : (year month day : ℕ) → IsDay year month day → day < 100
day_bound year month day h = omega (arith, h.day_to, (days_in_month_bounds (pos year) month).0)

text_tells : (digits : ℕ) (a b : Clock) → digits ≤ 9 → IsClock a → IsClock b → clock_text digits a ≡ clock_text digits b → SameShown digits a b
text_tells digits a b few h k e =
    let s = clock_text digits a in
    let t = clock_text digits b in
    record {
      year = four_same a.year b.year h.year k.year (at 0 s t e) (at 1 s t e) (at 2 s t e) (at 3 s t e);
      month = two_same a.month b.month (omega (arith, h.day.month_to)) (omega (arith, k.day.month_to)) (at 5 s t e) (at 6 s t e);
      day = two_same a.day b.day (day_bound a.year a.month a.day h.day) (day_bound b.year b.month b.day k.day) (at 8 s t e) (at 9 s t e);
      hour = two_same a.hour b.hour (omega (arith, h.hour)) (omega (arith, k.hour)) (at 11 s t e) (at 12 s t e);
      minute = two_same a.minute b.minute (omega (arith, h.minute)) (omega (arith, k.minute)) (at 14 s t e) (at 15 s t e);
      second = two_same a.second b.second (omega (arith, h.second)) (omega (arith, k.second)) (at 17 s t e) (at 18 s t e);
      fraction = same_fraction digits a.nanos b.nanos few h.nanos k.nanos (ap (λ l. drop 20 l) e);
    }

abbrev shown_moment : ℕ → Clock → ℤ
shown_moment digits c =
    moment (days_from_civil (pos c.year) c.month c.day) (c.hour * 3600 + c.minute * 60 + c.second) (front (9 - digits) c.nanos * 10 ^ (9 - digits)) (pos 0)

same_moment : (digits : ℕ) (a b : Clock) → SameShown digits a b → shown_moment digits a ≡ shown_moment digits b
same_moment digits a b same = λ i.
    moment (days_from_civil (pos (same.year i)) (same.month i) (same.day i)) (same.hour i * 3600 + same.minute i * 60 + same.second i) (same.fraction i * 10 ^ (9 - digits)) (pos 0)

cut_is_shown : (digits : ℕ) (c : Clock) → digits ≤ 9 → cut digits (clock_moment c) ≡ shown_moment digits c
cut_is_shown digits c few =
    cut-moment digits (days_from_civil (pos c.year) c.month c.day) (c.hour * 3600 + c.minute * 60 + c.second) c.nanos few

pub printed_tells :
    (digits : ℕ) (text : List ℕ) (m n : ℤ) → digits ≤ 9 → IsPrintedStamp digits text m → IsPrintedStamp digits text n
    → cut digits m ≡ cut digits n
printed_tells digits text m n few a b =
    let same = text_tells digits a.clock b.clock few a.is_clock b.is_clock (sym a.text_is ∙ b.text_is) in
    ap (cut digits) a.moment_is ∙ cut_is_shown digits a.clock few ∙ same_moment digits a.clock b.clock same
    ∙ sym (cut_is_shown digits b.clock few) ∙ sym (ap (cut digits) b.moment_is)

-- ---- one text for a moment

same_text : (digits : ℕ) (a b : Clock) → SameClock a b → clock_text digits a ≡ clock_text digits b
same_text digits a b same = λ i.
    date_text (same.year i) (same.month i) (same.day i)
    ++ 84 ∷ (hour_text (same.hour i) (same.minute i) ++ 58 ∷ (digits_text 2 (same.second i) ++ 46 ∷ (take digits (digits_text 9 (same.nanos i)) ++ 90 ∷ [])))

pub one_text : (digits : ℕ) (s t : List ℕ) (m : ℤ) → IsPrintedStamp digits s m → IsPrintedStamp digits t m → s ≡ t
one_text digits s t m a b =
    let same = same_clock a.clock b.clock a.is_clock b.is_clock (sym a.moment_is ∙ b.moment_is) in
    a.text_is ∙ same_text digits a.clock b.clock same ∙ sym b.text_is

pub nine_digits_cut_nothing : (m : ℤ) → cut 9 m ≡ m
nine_digits_cut_nothing m = omega (arith, signed_arith)
