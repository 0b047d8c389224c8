-- The range of moments that stamps name, and the range that can be printed.
use Rattle.std.specs.Prelude.{ℕ, ◌*◌, ℤ, pos, neg_ℤ, ◌+ℤ◌}
use Rattle.jiff_core.specs.Calendar.{IsBetween}
use Rattle.stamp_time.specs.Limits.{most_days}

-- a day of the years 1 to 9900, as days since 1970-01-01
abbrev pub IsStampDay : ℤ → Type 0
IsStampDay day = IsBetween (neg_ℤ (pos 719_162)) (pos 2_896_737) day

-- 0001-01-01T00:00:00+23:59
abbrev pub first_stamp : ℤ
first_stamp = neg_ℤ (pos 62_135_683_140_000_000_000)

-- 9900-12-31T23:59:59.999999999-23:59
abbrev pub last_stamp : ℤ
last_stamp = pos 250_278_249_539_999_999_999

-- the moment has a stamp
abbrev pub IsStampMoment : ℤ → Type 0
IsStampMoment m = IsBetween first_stamp last_stamp m

-- n whole days, in nanoseconds
abbrev pub days : ℕ → ℤ
days n = pos (n * 86_400_000_000_000)

-- a moment that has a stamp, or one up to 3,650 days later than such a moment
abbrev pub IsPrintable : ℤ → Type 0
IsPrintable m = IsBetween first_stamp (last_stamp +ℤ days most_days) m
