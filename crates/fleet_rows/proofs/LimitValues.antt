-- The numbers that the names of limits stand for.
use Rattle.std.proofs.Common.{◌≡◌, refl}
use Rattle.fleet_rows.specs.Limits.{most_pending, most_pending_bytes, most_workers}

pub most_pending_is : most_pending ≡ 262_144
most_pending_is = refl

pub most_pending_bytes_is : most_pending_bytes ≡ 1_073_741_824
most_pending_bytes_is = refl

pub most_workers_is : most_workers ≡ 64
most_workers_is = refl
