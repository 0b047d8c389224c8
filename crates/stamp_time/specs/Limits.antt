-- The longest lifetime, and so how far past a stamp a moment may be.
use Rattle.std.specs.Prelude.{ℕ}
use Rattle.stamp_time.specs.declared.limits.TheConstants.{MOST_DAYS}

-- the most days of a lifetime
abbrev pub most_days : ℕ
most_days = MOST_DAYS
