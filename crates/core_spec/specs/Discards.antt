-- The commands that were discarded.
use Rattle.std.specs.Prelude.{ℕ, List, [], ◌∷◌, flat_map, nat_lt, if◌then◌else◌}
use Rattle.table_spec.specs.fleet_rows.declared.command.Command.{Command}
use Rattle.core_spec.specs.declared.dead.Dead.{Dead}
use Rattle.core_spec.specs.History.{History, Standing, discarded, standing}
use Rattle.core_spec.specs.Pending.{submitted}

abbrev pub dead_if : ℕ → Command → Standing → List Dead
dead_if r c (discarded cause) = record { receipt = r; command = c; cause = cause } ∷ []
dead_if r c _ = []

abbrev pub dead_in : History → ℕ × Command → List Dead
dead_in history s = dead_if s.0 s.1 (standing s.0 history)

-- the discarded commands, sorted by receipt
abbrev pub dead_of : History → List Dead
dead_of history = flat_map (dead_in history) (submitted history)

-- inserts a discarded command, by receipt
abbrev pub put_dead : Dead → List Dead → List Dead
put_dead x [] = x ∷ []
put_dead x (y ∷ ys) = if nat_lt x.receipt y.receipt then x ∷ y ∷ ys else y ∷ put_dead x ys
