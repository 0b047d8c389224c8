-- Checks of values that are kept as received.
use Rattle.std.specs.Prelude.{Ok}
use Rattle.wire_spec.specs.Table.{Checked, ◌>>=◌}

-- only the refusal, if there is one
abbrev pub checked : {A : Type 0} → Checked A → Checked (Unit {0})
checked c = c >>= (λ a. Ok tt)
