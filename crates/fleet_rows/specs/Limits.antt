-- The limits of the queue and of the number of workers.
use Rattle.std.specs.Prelude.{ℕ}
use Rattle.fleet_rows.specs.declared.limits.TheConstants.{MOST_PENDING, MOST_PENDING_BYTES, MOST_WORKERS}

-- the most pending commands
abbrev pub most_pending : ℕ
most_pending = MOST_PENDING

-- the most payload bytes of pending commands
abbrev pub most_pending_bytes : ℕ
most_pending_bytes = MOST_PENDING_BYTES

-- the most workers of a run
abbrev pub most_workers : ℕ
most_workers = MOST_WORKERS
