-- The stamp that a dump writes of a moment: in UTC where the UTC year has a stamp, and without zeros at the end of its fraction.
use Rattle.std.specs.Prelude.{ℕ, ℤ, pos, ◌+ℤ◌, ◌*ℤ◌, List, [], ◌∷◌, ◌==◌, nat_lt, if◌then◌else◌, Option, Some, None}
use Rattle.list_again.specs.text_spec.Stamp.{Zone, utc, ahead, behind, StampText, stamp_text, zone_seconds, digits_text}
use Rattle.list_again.specs.fleet_rows.Printed.{clock_at}

-- UTC, where its year has a stamp. Where it is 0 or 9901, the greatest offset makes the local year 1 or 9900
abbrev pub short_zone : ℤ → Zone
short_zone m =
    if nat_lt (clock_at m).year 1 then ahead 23 59
    else (if nat_lt 9900 (clock_at m).year then behind 23 59 else utc 90)

abbrev pub digit_before : ℕ → List ℕ → List ℕ
digit_before d [] = if d == 48 then [] else d ∷ []
digit_before d (e ∷ ds) = d ∷ e ∷ ds

-- the digits without the zeros at their end
abbrev pub without_zeros : List ℕ → List ℕ
without_zeros [] = []
without_zeros (d ∷ ds) = digit_before d (without_zeros ds)

abbrev pub if_some : List ℕ → Option (List ℕ)
if_some [] = None
if_some (d ∷ ds) = Some (d ∷ ds)

-- nanoseconds as digits, of which there are none where all are zero
abbrev pub short_fraction : ℕ → Option (List ℕ)
short_fraction nanos = if_some (without_zeros (digits_text 9 nanos))

-- what a clock in the zone shows at the moment
abbrev pub short_stamp : ℤ → StampText
short_stamp m =
    let zone = short_zone m in
    let clock = clock_at (m +ℤ zone_seconds zone *ℤ pos 1_000_000_000) in
    record {
      year = clock.year;
      month = clock.month;
      day = clock.day;
      letter = 84;
      hour = clock.hour;
      minute = clock.minute;
      second = clock.second;
      fraction = short_fraction clock.nanos;
      zone = zone;
    }

unfoldable pub short_text : ℤ → List ℕ
short_text m = stamp_text (short_stamp m)
