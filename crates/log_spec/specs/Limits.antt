-- The longest log.
use Rattle.std.specs.Prelude.{ℕ}
use Rattle.log_spec.specs.declared.limits.TheConstants.{MOST_LOG}

-- the most bytes of a log's file
abbrev pub most_log : ℕ
most_log = MOST_LOG
