-- The commands in the text of a spool that is made.
use Rattle.std.specs.Prelude.{ℕ, zero, suc, ℤ, List, [], ◌∷◌, ◌++◌}
use Rattle.made_spec.specs.history_spec.Thread.{Item, command}
use Rattle.made_spec.specs.Made.{number, made_command}

-- the first `count` commands that the seed leads to, received at the given moment
unfoldable pub made_items : ℤ → ℕ → ℕ → List Item
made_items received seed zero = []
made_items received seed (suc i) = made_items received seed i ++ command (made_command received i (number seed (suc i))) ∷ []
