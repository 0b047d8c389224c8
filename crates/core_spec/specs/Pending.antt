-- The pending commands of a history.
use Rattle.std.specs.Prelude.{ℕ, ◌<◌, List, [], ◌∷◌, ◌++◌, flat_map, true, false}
use Rattle.std.specs.List.{AllByRecursion}
use Rattle.table_spec.specs.fleet_rows.declared.command.Command.{Command}
use Rattle.core_spec.specs.declared.event.Event.TheVariants.{Submit}
use Rattle.core_spec.specs.declared.entry.Entry.{Entry}
use Rattle.core_spec.specs.Commands.{key_of}
use Rattle.core_spec.specs.History.{History, Standing, queued, claimed, standing, fails}

-- the submitted commands, in the order of receipts
abbrev pub submitted : History → List (ℕ × Command)
submitted [] = []
submitted (Submit r c ∷ earlier) = submitted earlier ++ (r, c) ∷ []
submitted (_ ∷ earlier) = submitted earlier

abbrev pub waiting : ℕ → Command → ℕ → Standing → List Entry
waiting r c n queued = record { receipt = r; command = c; group = key_of c; attempts = n; claimed = false } ∷ []
waiting r c n claimed = record { receipt = r; command = c; group = key_of c; attempts = n; claimed = true } ∷ []
waiting r c n _ = []

abbrev pub entry_in : History → ℕ × Command → List Entry
entry_in history s = waiting s.0 s.1 (fails s.0 history) (standing s.0 history)

-- the queued and the claimed commands, by receipt
abbrev pub pending_of : History → List Entry
pending_of history = flat_map (entry_in history) (submitted history)

-- the store failed fewer than sixteen times at each of these
abbrev pub NoneIsWornOut : List Entry → Type 0
NoneIsWornOut = AllByRecursion (λ (e : Entry). e.attempts < 16)
