-- The stamp of a moment is what a clock of its zone shows.
use Rattle.std.proofs.Common.{◌≡◌, ◌∙◌, ℕ, ◌≤◌, ◌<◌, ℤ, pos, neg_ℤ, ◌+ℤ◌, ◌*ℤ◌, ◌<ℤ◌, ◌≤ℤ◌, List, ◌∷◌, ◌++◌, take, Bool, true, false, if◌then◌else◌, arith, refl, sym, ap}
use Rattle.std.specs.Prelude.{nat_lt, slice_range}
use Rattle.jiff_core.proofs.SignedLemmas.{signed_arith}
use Rattle.dump_laws.specs.dump_spec.fleet_rows.Printed.{clock_at, full_text}
use Rattle.dump_laws.specs.dump_spec.stamp_time.Range.{IsStampMoment}
use Rattle.dump_laws.specs.dump_spec.text_spec.Stamp.{Zone, utc, ahead, behind, Clock, StampText, date_text, hour_text, digits_text, fraction_text, zone_text, zone_seconds, stamp_text}
use Rattle.dump_laws.specs.dump_spec.Stamps.{if_some, without_zeros, short_zone, short_fraction, short_text}
use Rattle.dump_laws.proofs.ShortStamps.{year_is_0, year_is_after, year_is_stamps}

-- date and time, to the second
abbrev pub clock_front : Clock → List ℕ
clock_front c = date_text c.year c.month c.day ++ 84 ∷ (hour_text c.hour c.minute ++ 58 ∷ digits_text 2 c.second)

abbrev stamp_at : ℤ → Zone → StampText
stamp_at x zone =
    let c = clock_at x in
    record { year = c.year; month = c.month; day = c.day; letter = 84; hour = c.hour; minute = c.minute; second = c.second; fraction = short_fraction c.nanos; zone = zone }

-- the parts of what is printed for x, with this zone behind them
pub printed_parts : (x : ℤ) (zone : Zone) (shown end : List ℕ) → shown ≡ full_text x → end ≡ zone_text zone
    → take 19 shown ++ (fraction_text (if_some (without_zeros (slice_range shown 20 29))) ++ end) ≡ stamp_text (stamp_at x zone)
unfolding full_text
printed_parts x zone shown end is same = λ i. take 19 (is i) ++ (fraction_text (if_some (without_zeros (slice_range (is i) 20 29))) ++ same i)

pub short_text_in : (m x : ℤ) (zone : Zone) → short_zone m ≡ zone → x ≡ m +ℤ zone_seconds zone *ℤ pos 1_000_000_000 → short_text m ≡ stamp_text (stamp_at x zone)
unfolding short_text
short_text_in m x zone is at =
    ap (λ z. stamp_text (stamp_at (m +ℤ zone_seconds z *ℤ pos 1_000_000_000) z)) is ∙ ap (λ y. stamp_text (stamp_at y zone)) (sym at)

-- ---- the zone

zone_by : (early late a b : Bool) → early ≡ a → late ≡ b → (if early then ahead 23 59 else (if late then behind 23 59 else utc 90)) ≡ (if a then ahead 23 59 else (if b then behind 23 59 else utc 90))
zone_by early late a b e f = rw (e, f) refl

is_below : (n k : ℕ) → n < k → nat_lt n k ≡ true
is_below n k h = grind arith

not_below : (n k : ℕ) → k ≤ n → nat_lt n k ≡ false
not_below n k h = grind arith

pub zone_early : (m : ℤ) → IsStampMoment m → m <ℤ neg_ℤ (pos 62_135_596_800_000_000_000) → short_zone m ≡ ahead 23 59
zone_early m h early =
    let year = (clock_at m).year in
    let below = is_below year 1 (year_is_0 m h early) in
    ap (λ b. if b then ahead 23 59 else (if nat_lt 9900 year then behind 23 59 else utc 90)) below

pub zone_late : (m : ℤ) → IsStampMoment m → pos 250_278_163_200_000_000_000 ≤ℤ m → short_zone m ≡ behind 23 59
zone_late m h late =
    let year = (clock_at m).year in
    let after = year_is_after m h late in
    zone_by (nat_lt year 1) (nat_lt 9900 year) false true (not_below year 1 (omega (arith, after))) (is_below 9900 year after)

pub zone_utc : (m : ℤ) → IsStampMoment m → neg_ℤ (pos 62_135_596_800_000_000_000) ≤ℤ m → m <ℤ pos 250_278_163_200_000_000_000 → short_zone m ≡ utc 90
zone_utc m h from to =
    let year = (clock_at m).year in
    let is = year_is_stamps m h from to in
    zone_by (nat_lt year 1) (nat_lt 9900 year) false false (not_below year 1 is.0) (not_below 9900 year is.1)

-- ---- the whole text

ahead_seconds : (m : ℤ) → m +ℤ pos 86_340_000_000_000 ≡ m +ℤ zone_seconds (ahead 23 59) *ℤ pos 1_000_000_000
ahead_seconds m = omega (arith, signed_arith)

behind_seconds : (m : ℤ) → m +ℤ neg_ℤ (pos 86_340_000_000_000) ≡ m +ℤ zone_seconds (behind 23 59) *ℤ pos 1_000_000_000
behind_seconds m = omega (arith, signed_arith)

utc_seconds : (m : ℤ) → m ≡ m +ℤ zone_seconds (utc 90) *ℤ pos 1_000_000_000
utc_seconds m = omega (arith, signed_arith)

abbrev shown_parts : List ℕ → List ℕ → List ℕ
shown_parts shown end = take 19 shown ++ (fraction_text (if_some (without_zeros (slice_range shown 20 29))) ++ end)

pub early_text : (m x : ℤ) (shown end : List ℕ) → IsStampMoment m → m <ℤ neg_ℤ (pos 62_135_596_800_000_000_000) → x ≡ m +ℤ pos 86_340_000_000_000 → shown ≡ full_text x
    → end ≡ zone_text (ahead 23 59) → shown_parts shown end ≡ short_text m
early_text m x shown end h early at is same =
    printed_parts x (ahead 23 59) shown end is same ∙ sym (short_text_in m x (ahead 23 59) (zone_early m h early) (at ∙ ahead_seconds m))

pub late_text : (m x : ℤ) (shown end : List ℕ) → IsStampMoment m → pos 250_278_163_200_000_000_000 ≤ℤ m → x ≡ m +ℤ neg_ℤ (pos 86_340_000_000_000) → shown ≡ full_text x
    → end ≡ zone_text (behind 23 59) → shown_parts shown end ≡ short_text m
late_text m x shown end h late at is same =
    printed_parts x (behind 23 59) shown end is same ∙ sym (short_text_in m x (behind 23 59) (zone_late m h late) (at ∙ behind_seconds m))

pub utc_text : (m : ℤ) (shown end : List ℕ) → IsStampMoment m → neg_ℤ (pos 62_135_596_800_000_000_000) ≤ℤ m → m <ℤ pos 250_278_163_200_000_000_000 → shown ≡ full_text m
    → end ≡ zone_text (utc 90) → shown_parts shown end ≡ short_text m
utc_text m shown end h from to is same =
    printed_parts m (utc 90) shown end is same ∙ sym (short_text_in m m (utc 90) (zone_utc m h from to) (utc_seconds m))
