-- The numbers that the names of limits stand for.
use Rattle.std.proofs.Common.{◌≡◌, refl}
use Rattle.spool_run.specs.Limits.{most_waiting, most_bytes}

pub most_waiting_is : most_waiting ≡ 4_096
most_waiting_is = refl

pub most_bytes_is : most_bytes ≡ 67_108_864
most_bytes_is = refl
