-- A clock shows one moment, and a moment has one clock of UTC.
use Rattle.std.proofs.Common.{◌≡◌, ◌∙◌, ℕ, ◌+◌, ◌-◌, ◌*◌, ◌%◌, ◌^◌, ◌<◌, ◌≤◌, ℤ, pos, ◌+ℤ◌, ◌-ℤ◌, ◌*ℤ◌, arith, refl, ap, sym, pow-add}
use Rattle.std.specs.Int.{int_rem_euclid}
use Rattle.std.proofs.lemmas.Int.{int_rem_euclid_is}
use Rattle.std.proofs.lemmas.Nat.{mod-mul-add}
use Rattle.jiff_core.specs.declared.civil.date.Date.{Date}
use Rattle.jiff_core.specs.Calendar.{days_from_civil, IsYear}
use Rattle.jiff_core.proofs.DateLemmas.{epoch_day_injective}
use Rattle.jiff_core.proofs.SignedLemmas.{signed_arith}
use borrow.Author.Differences.{up, down}
use Rattle.json_machine.specs.text_spec.Stamp.{Clock, IsClock, clock_moment, moment}
use Rattle.text_laws.specs.StampLaws.{cut}
use Rattle.text_laws.proofs.StampDigits.{front, back, front-back, back_bound}

abbrev date_of : (c : Clock) → IsClock c → Date
date_of c h =
    let year : IsYear (pos c.year) = omega (arith, signed_arith, h.year) in
    record { year = pos c.year; month = c.month; day = c.day; year_in = year; month_in = (h.day.month_from, h.day.month_to); day_in = (h.day.day_from, h.day.day_to) }

abbrev clock_seconds : Clock → ℕ
clock_seconds c = c.hour * 3600 + c.minute * 60 + c.second

record SameParts (a b : ℤ) (s t n k : ℕ) : Type 0 where
  day : a ≡ b
  second : s ≡ t
  nanos : n ≡ k

moment-parts :
    (a b : ℤ) (s t n k : ℕ) → s < 86_400 → t < 86_400 → n < 1_000_000_000 → k < 1_000_000_000
    → moment a s n (pos 0) ≡ moment b t k (pos 0) → SameParts a b s t n k
moment-parts a b s t n k hs ht hn hk e =
    let day : a ≡ b = omega (arith, signed_arith) in
    let second : s ≡ t = omega (arith, signed_arith) in
    let nanos : n ≡ k = omega (arith, signed_arith) in
    record { day = day; second = second; nanos = nanos }

rem_cut :
    (power more : ℕ) (s : ℤ) (t r n : ℕ) → more * power ≡ 1_000_000_000 → r < power → n ≡ t * power + r
    → int_rem_euclid (s *ℤ pos 1_000_000_000 +ℤ pos n) (pos power) ≡ pos r
rem_cut power more s t r n e h parts =
    let whole : down s * more * power ≡ down s * 1_000_000_000 = omega (arith, ap (λ x. down s * x) e) in
    let same : up s * 1_000_000_000 + n ≡ (up s * more + t) * power + r = omega (arith, ap (λ x. up s * x) e, parts) in
    let shifted : s *ℤ pos 1_000_000_000 +ℤ pos n +ℤ pos (down s * more * power) ≡ pos (up s * 1_000_000_000 + n) = omega (arith, signed_arith, whole) in
    int_rem_euclid_is (s *ℤ pos 1_000_000_000 +ℤ pos n) (pos power) power (down s * more) (up s * 1_000_000_000 + n) (omega arith) refl shifted
    ∙ ap pos (ap (λ x. x % power) same ∙ mod-mul-add (up s * more + t) power r h)

-- cutting leaves the digits in front
pub cut-moment :
    (digits : ℕ) (day : ℤ) (second n : ℕ) → digits ≤ 9
    → cut digits (moment day second n (pos 0)) ≡ moment day second (front (9 - digits) n * 10 ^ (9 - digits)) (pos 0)
cut-moment digits day second n few =
    let k = 9 - digits in
    let nine : digits + k ≡ 9 = omega arith in
    let power : 10 ^ digits * 10 ^ k ≡ 10 ^ 9 = sym (pow-add 10 digits k) ∙ ap (λ x. 10 ^ x) nine in
    let rest = rem_cut (10 ^ k) (10 ^ digits) (day *ℤ pos 86_400 +ℤ pos second -ℤ pos 0) (front k n) (back k n) n power (back_bound k n) (front-back k n) in
    rw rest (omega (arith, signed_arith, front-back k n))

-- ---- a moment has one clock

pub record SameClock (a b : Clock) : Type 0 where
  pub year : a.year ≡ b.year
  pub month : a.month ≡ b.month
  pub day : a.day ≡ b.day
  pub hour : a.hour ≡ b.hour
  pub minute : a.minute ≡ b.minute
  pub second : a.second ≡ b.second
  pub nanos : a.nanos ≡ b.nanos

pub same_clock : (a b : Clock) → IsClock a → IsClock b → clock_moment a ≡ clock_moment b → SameClock a b
same_clock a b h k e =
    let date = days_from_civil (pos a.year) a.month a.day in
    let other = days_from_civil (pos b.year) b.month b.day in
    let low : clock_seconds a < 86_400 = omega (arith, h.hour, h.minute, h.second) in
    let other_low : clock_seconds b < 86_400 = omega (arith, k.hour, k.minute, k.second) in
    let p = moment-parts date other (clock_seconds a) (clock_seconds b) a.nanos b.nanos low other_low (omega (arith, h.nanos)) (omega (arith, k.nanos)) e in
    let d = epoch_day_injective (date_of a h) (date_of b k) p.day in
    let seconds : clock_seconds a ≡ clock_seconds b = p.second in
    record {
      year = omega (arith, signed_arith, d.0);
      month = d.1;
      day = d.2;
      hour = omega (arith, seconds, h.minute, h.second, k.minute, k.second);
      minute = omega (arith, seconds, h.minute, h.second, k.minute, k.second);
      second = omega (arith, seconds, h.minute, h.second, k.minute, k.second);
      nanos = p.nanos;
    }
