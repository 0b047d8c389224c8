-- The list that a core under the lock stands for.
use Rattle.std.specs.Prelude.{◌≡◌, ◌⊎◌, ℕ, List, [], ◌∷◌, reverse, map}
use Rattle.core_ends.specs.fleet_rows.declared.command.Command.{Command}
use Rattle.core_ends.specs.core_spec.declared.event.Event.TheVariants.{Submit}
use Rattle.core_ends.specs.core_spec.History.{History}
use Rattle.core_ends.specs.core_state.declared.state.CoreState.{CoreState}
use Rattle.core_ends.specs.core_state.Seen.{HasRecord}
use Rattle.hub_calls.specs.declared.entry.Entry.{Entry}
use Rattle.hub_calls.specs.declared.entry.Entry.TheVariants.{Opened, Happened}

-- the core as it came under the lock, followed by its events, oldest first
abbrev pub entries : {D K : Type 0} → CoreState D K → History → List (Entry D K)
entries start events = Opened start ∷ map Happened (reverse events)

-- an event of the list submitted the command under this receipt
abbrev pub HasSubmitEntry : {D K : Type 0} → ℕ → Command → List (Entry D K) → Type 0
HasSubmitEntry r c [] = ⊥
HasSubmitEntry r c (Happened (Submit q d) ∷ es) = ((q ≡ r) × (d ≡ c)) ⊎ HasSubmitEntry r c es
HasSubmitEntry r c (_ ∷ es) = HasSubmitEntry r c es

-- or the records that the core's opening found have it
abbrev pub WasSubmitted : {D K : Type 0} → ℕ → Command → List (Entry D K) → Type 0
WasSubmitted r c (Opened start ∷ es) = HasRecord r c start.found.queue.value ⊎ HasSubmitEntry r c es
WasSubmitted r c _ = ⊥
