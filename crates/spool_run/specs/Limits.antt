-- The batch limits.
use Rattle.std.specs.Prelude.{ℕ}
use Rattle.spool_run.specs.declared.batch.TheConstants.{MOST_WAITING, MOST_BYTES}

-- the number of pending commands at which they are settled
abbrev pub most_waiting : ℕ
most_waiting = MOST_WAITING

-- the bytes of pending payloads at which they are settled
abbrev pub most_bytes : ℕ
most_bytes = MOST_BYTES
