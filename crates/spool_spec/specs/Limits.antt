-- The limit on the length of a spool.
use Rattle.std.specs.Prelude.{ℕ}
use Rattle.spool_spec.specs.declared.limits.TheConstants.{MOST_SPOOL}

-- the most bytes of a spool
abbrev pub most_spool : ℕ
most_spool = MOST_SPOOL
