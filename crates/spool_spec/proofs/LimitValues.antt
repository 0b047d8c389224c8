-- The numbers that the names of limits stand for.
use Rattle.std.proofs.Common.{◌≡◌, ◌^◌, refl}
use Rattle.spool_spec.specs.Limits.{most_spool}

pub most_spool_is : most_spool ≡ 2 ^ 62
most_spool_is = refl
