-- The history that a single thread makes from commands and sweeps in sequence.
use Rattle.std.specs.Prelude.{◌≡◌, ℕ, suc, ◌^◌, ◌<◌, ℤ, List, [], ◌∷◌, ◌++◌, ◌==◌, if◌then◌else◌, Some, Result, Ok, Err, length, map}
use Rattle.std.specs.List.{list_any}
use Rattle.wire_spec.specs.fleet_rows.declared.change.Change.{Change}
use Rattle.wire_spec.specs.fleet_rows.declared.command.Command.{Command}
use Rattle.wire_spec.specs.fleet_rows.declared.refusal.Refusal.{Refusal}
use Rattle.wire_spec.specs.fleet_rows.declared.settings.Kinds.{Kinds}
use Rattle.wire_spec.specs.Decode.{DecodeOf}
use Rattle.history_spec.specs.Lawful.{HasStamp}
use Rattle.history_spec.specs.Trace.{Trace, applied, swept, applied_as}

pub data Item : Type 0 where
  command : Command → Item
  sweep : Kinds → ℤ → Item

-- a possible item: a command with a payload length of 32 bits and a received moment that has a stamp, or a sweep at such a moment
abbrev pub IsItem : Item → Type 0
IsItem (command c) = (length c.payload < 2 ^ 32) × HasStamp c.received
IsItem (sweep kinds m) = HasStamp m

-- a command is applied with the moment at which it was received; a refused command is left out
abbrev pub with_answer : ℕ → ℤ → Result Change Refusal → Trace → Trace
with_answer receipt received (Ok change) history = applied (applied_as receipt (Some received) change) ∷ history
with_answer receipt received (Err refusal) history = history

-- the items lead from `before` to `after`; the next command gets this receipt
abbrev pub LeadsTo : ℕ → List Item → Trace → Trace → Type 0
LeadsTo receipt [] before after = after ≡ before
LeadsTo receipt (command c ∷ items) before after =
    (answer : Result Change Refusal) × DecodeOf c answer × LeadsTo (suc receipt) items (with_answer receipt c.received answer before) after
LeadsTo receipt (sweep kinds m ∷ items) before after = LeadsTo receipt items (swept kinds m ∷ before) after

-- the history of one thread over the items, from an empty history: commands get receipts from 1 on
abbrev pub OneThread : List Item → Trace → Type 0
OneThread items history = LeadsTo 1 items [] history

-- ---- in general: starting from a history, with pending commands first, and without dropped ones

-- what arrives at the thread: a command with its receipt, or a sweep
pub data Arrival : Type 0 where
  received : ℕ → Command → Arrival
  asked : Kinds → ℤ → Arrival

-- the items, with receipts for their commands from this one on
abbrev pub numbered : ℕ → List Item → List Arrival
numbered receipt [] = []
numbered receipt (command c ∷ items) = received receipt c ∷ numbered (suc receipt) items
numbered receipt (sweep kinds m ∷ items) = asked kinds m ∷ numbered receipt items

-- pending commands with their receipts; they come before all arrivals
abbrev pub waiting : List (ℕ × Command) → List Arrival
waiting = map (λ w. received w.0 w.1)

-- a command is left out if its receipt was dropped, or if it is refused
abbrev pub with_arrival : List ℕ → ℕ → Command → Result Change Refusal → Trace → Trace
with_arrival dropped receipt c answer history =
    if list_any (λ r. r == receipt) dropped then history else with_answer receipt c.received answer history

-- the arrivals lead from `before` to `after`, one by one
abbrev pub ComesTo : List ℕ → List Arrival → Trace → Trace → Type 0
ComesTo dropped [] before after = after ≡ before
ComesTo dropped (received receipt c ∷ arrivals) before after =
    (answer : Result Change Refusal) × DecodeOf c answer × ComesTo dropped arrivals (with_arrival dropped receipt c answer before) after
ComesTo dropped (asked kinds m ∷ arrivals) before after = ComesTo dropped arrivals (swept kinds m ∷ before) after

-- the history of one thread that continues a history with pending commands, whose receipts are below those that arrive. It knows
-- no queue, no claims and no superseding
abbrev pub ThreadOf : Trace → List (ℕ × Command) → List Arrival → List ℕ → Trace → Type 0
ThreadOf start pending arrivals dropped history = ComesTo dropped (waiting pending ++ arrivals) start history
