-- What a UTC clock shows at a moment.
use Rattle.std.specs.Prelude.{◌≡◌, ℤ}
use Rattle.text_spec.specs.Stamp.{Clock, IsClock, clock_moment}
use Rattle.stamp_time.specs.declared.clock.Shown.{Shown}

abbrev pub clock_of : Shown → Clock
clock_of s =
    record {
      year = s.year;
      month = s.month;
      day = s.day;
      hour = s.hour;
      minute = s.minute;
      second = s.second;
      nanos = s.nanos;
    }

-- a UTC clock shows this at the moment
pub record IsShownAt (m : ℤ) (s : Shown) : Type 0 where
  pub is_clock : IsClock (clock_of s)
  pub moment_is : m ≡ clock_moment (clock_of s)
