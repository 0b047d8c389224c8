-- The events of a core, as contracts see them.
use Rattle.std.specs.Prelude.{ℕ}
use Rattle.retry_discard.specs.core_spec.History.{History}

-- the events, newest first, and the room for more
pub record Noted : Type 0 where
  pub list : History
  pub room : ℕ
