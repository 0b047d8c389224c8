-- The numbers that the names of limits stand for.
use Rattle.std.proofs.Common.{◌≡◌, refl}
use Rattle.stamp_time.specs.Limits.{most_days}

pub most_days_is : most_days ≡ 3_650
most_days_is = refl
