-- The numbers that the names of limits stand for.
use Rattle.std.proofs.Common.{◌≡◌, ◌^◌, refl}
use Rattle.log_spec.specs.Limits.{most_log}

pub most_log_is : most_log ≡ 2 ^ 62
most_log_is = refl
