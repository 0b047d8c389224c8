-- What the inbox of the tests holds.
use Rattle.std.specs.Prelude.{ℕ, ◌+◌, ◌-◌, ◌^◌, Bool, true, false, List, [], ◌∷◌, length}
use Rattle.http_routes.specs.fleet_rows.declared.command.Command.{Command}
use Rattle.http_routes.specs.Inbox.{Held, next_record}
use Rattle.http_tests.specs.declared.outside.Says.{Says}
use Rattle.http_tests.specs.declared.outside.Says.TheVariants.{Taking, Full, QueueFault, Spent, Down, Memory}

-- with these numbers, and nothing else
abbrev pub bare : ℕ → ℕ → Bool → Held
bare last pending is_down =
    record { taken = []; last = last; pending = pending; pending_bytes = 0; size = 0; is_down = is_down; faults = 2 ^ 64 - 1 }

-- the commands with their receipts, behind so many
abbrev pub numbered : ℕ → List Command → List (ℕ × Command)
numbered n [] = []
numbered n (c ∷ cs) = (n + 1, c) ∷ numbered (n + 1) cs

abbrev pub bytes_in : List Command → ℕ
bytes_in [] = 0
bytes_in (c ∷ cs) = length c.payload + bytes_in cs

-- the bytes of their records in a log
abbrev pub size_behind : ℕ → List Command → ℕ
size_behind n [] = 0
size_behind n (c ∷ cs) = 5 + length (next_record c (bare n 0 false)) + size_behind (n + 1) cs

abbrev pub taken_in : List Command → Held
taken_in cs = record {
  taken = numbered 0 cs;
  last = length cs;
  pending = length cs;
  pending_bytes = bytes_in cs;
  size = size_behind 0 cs;
  is_down = false;
  faults = 2 ^ 64 - 1;
}

abbrev pub held_in : Says → List Command → Held
held_in Taking cs = taken_in cs
held_in Full cs = bare 0 262_144 false
held_in QueueFault cs = taken_in []
held_in Spent cs = bare (2 ^ 64 - 1) 0 false
held_in Down cs = bare 0 0 true
held_in Memory cs = bare 0 0 false
