-- Stamps and texts that are none, computed.
use Rattle.std.proofs.Common.{◌≡◌, refl, pos, neg_ℤ, Some, None, codes}
use Rattle.jiff.proofs.OnLiterals.{jiff_on_literals}
use Rattle.json_machine.specs.text_spec.StampReader.{stamp_of, date_at, time_at, two_digits, one_of, fraction_at, distance_at, offset_at}

-- 1900 is no leap year
no_leap_day_in_1900 : stamp_of (codes "1900-02-29T00:00:00Z") ≡ None
unfolding stamp_of date_at time_at two_digits one_of fraction_at distance_at offset_at jiff_on_literals
no_leap_day_in_1900 = refl

-- 2000 is one
leap_day_in_2000 : stamp_of (codes "2000-02-29T00:00:00Z") ≡ Some (pos 951_782_400_000_000_000)
unfolding stamp_of date_at time_at two_digits one_of fraction_at distance_at offset_at jiff_on_literals
leap_day_in_2000 = refl

-- and so is 2024
leap_day_in_2024 : stamp_of (codes "2024-02-29T00:00:00Z") ≡ Some (pos 1_709_164_800_000_000_000)
unfolding stamp_of date_at time_at two_digits one_of fraction_at distance_at offset_at jiff_on_literals
leap_day_in_2024 = refl

-- February has no thirtieth
no_30_february : stamp_of (codes "2024-02-30T00:00:00Z") ≡ None
unfolding stamp_of date_at time_at two_digits one_of fraction_at distance_at offset_at jiff_on_literals
no_30_february = refl

-- -00:00 is UTC
minus_zero : stamp_of (codes "2024-05-01T12:00:00-00:00") ≡ Some (pos 1_714_564_800_000_000_000)
unfolding stamp_of date_at time_at two_digits one_of fraction_at distance_at offset_at jiff_on_literals
minus_zero = refl

-- there are no leap seconds
no_leap_second : stamp_of (codes "2024-05-01T10:00:60Z") ≡ None
unfolding stamp_of date_at time_at two_digits one_of fraction_at distance_at offset_at jiff_on_literals
no_leap_second = refl

-- one digit is tenths of a second
one_digit : stamp_of (codes "2024-05-01T10:00:00.5Z") ≡ Some (pos 1_714_557_600_500_000_000)
unfolding stamp_of date_at time_at two_digits one_of fraction_at distance_at offset_at jiff_on_literals
one_digit = refl

-- nine are nanoseconds
nine_digits : stamp_of (codes "2024-05-01T10:00:00.123456789Z") ≡ Some (pos 1_714_557_600_123_456_789)
unfolding stamp_of date_at time_at two_digits one_of fraction_at distance_at offset_at jiff_on_literals
nine_digits = refl

-- ten are too many
ten_digits : stamp_of (codes "2024-05-01T10:00:00.1234567890Z") ≡ None
unfolding stamp_of date_at time_at two_digits one_of fraction_at distance_at offset_at jiff_on_literals
ten_digits = refl

-- a dot wants digits
no_digits : stamp_of (codes "2024-05-01T10:00:00.Z") ≡ None
unfolding stamp_of date_at time_at two_digits one_of fraction_at distance_at offset_at jiff_on_literals
no_digits = refl

-- the letters may be small
small_letters : stamp_of (codes "2024-05-01t10:00:00z") ≡ Some (pos 1_714_557_600_000_000_000)
unfolding stamp_of date_at time_at two_digits one_of fraction_at distance_at offset_at jiff_on_literals
small_letters = refl

-- no space stands for the T
no_space : stamp_of (codes "2024-05-01 10:00:00Z") ≡ None
unfolding stamp_of date_at time_at two_digits one_of fraction_at distance_at offset_at jiff_on_literals
no_space = refl

-- a zone may be 23:59 ahead
greatest_offset : stamp_of (codes "2024-05-01T12:00:00+23:59") ≡ Some (pos 1_714_478_460_000_000_000)
unfolding stamp_of date_at time_at two_digits one_of fraction_at distance_at offset_at jiff_on_literals
greatest_offset = refl

-- and no more
no_greater_offset : stamp_of (codes "2024-05-01T12:00:00+24:00") ≡ None
unfolding stamp_of date_at time_at two_digits one_of fraction_at distance_at offset_at jiff_on_literals
no_greater_offset = refl

-- the year 0 is refused
year_0000 : stamp_of (codes "0000-12-31T23:59:59Z") ≡ None
unfolding stamp_of date_at time_at two_digits one_of fraction_at distance_at offset_at jiff_on_literals
year_0000 = refl

-- the year 1 is the first
year_0001 : stamp_of (codes "0001-01-01T00:00:00Z") ≡ Some (neg_ℤ (pos 62_135_596_800_000_000_000))
unfolding stamp_of date_at time_at two_digits one_of fraction_at distance_at offset_at jiff_on_literals
year_0001 = refl

-- the year 9900 is the last
year_9900 : stamp_of (codes "9900-12-31T23:59:59Z") ≡ Some (pos 250_278_163_199_000_000_000)
unfolding stamp_of date_at time_at two_digits one_of fraction_at distance_at offset_at jiff_on_literals
year_9900 = refl

-- the year 9901 is refused
year_9901 : stamp_of (codes "9901-01-01T00:00:00Z") ≡ None
unfolding stamp_of date_at time_at two_digits one_of fraction_at distance_at offset_at jiff_on_literals
year_9901 = refl

-- a clock ahead of UTC shows noon before UTC does
nanosecond_ahead : stamp_of (codes "2024-05-01T12:00:00.000000001+02:00") ≡ Some (pos 1_714_557_600_000_000_001)
unfolding stamp_of date_at time_at two_digits one_of fraction_at distance_at offset_at jiff_on_literals
nanosecond_ahead = refl

-- and a clock behind it after
nanosecond_behind : stamp_of (codes "2024-05-01T12:00:00.000000001-02:00") ≡ Some (pos 1_714_572_000_000_000_001)
unfolding stamp_of date_at time_at two_digits one_of fraction_at distance_at offset_at jiff_on_literals
nanosecond_behind = refl

-- the first moment that a stamp names
first_moment : stamp_of (codes "0001-01-01T00:00:00+23:59") ≡ Some (neg_ℤ (pos 62_135_683_140_000_000_000))
unfolding stamp_of date_at time_at two_digits one_of fraction_at distance_at offset_at jiff_on_literals
first_moment = refl

-- and the last
last_moment : stamp_of (codes "9900-12-31T23:59:59.999999999-23:59") ≡ Some (pos 250_278_249_539_999_999_999)
unfolding stamp_of date_at time_at two_digits one_of fraction_at distance_at offset_at jiff_on_literals
last_moment = refl

-- nothing stands behind a stamp
nothing_behind : stamp_of (codes "2024-05-01T10:00:00Z ") ≡ None
unfolding stamp_of date_at time_at two_digits one_of fraction_at distance_at offset_at jiff_on_literals
nothing_behind = refl
