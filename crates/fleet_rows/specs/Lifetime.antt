-- The allowed lifetimes and numbers of reports.
use Rattle.std.specs.Prelude.{ℕ, ◌≤◌}
use Rattle.stamp_time.specs.Limits.{most_days}

-- from one day to ten years (3,650 days)
abbrev pub IsLifetime : ℕ → Type 0
IsLifetime days = (1 ≤ days) × (days ≤ most_days)

-- a limit allows at least one report
abbrev pub IsReportCount : ℕ → Type 0
IsReportCount count = (1 ≤ count) × (count ≤ 1_000_000)
