-- What each event does to the list of discarded commands.
use Rattle.std.specs.Prelude.{◌≡◌, ℕ, ◌∷◌, Some}
use Rattle.core_machine.specs.fleet_rows.declared.command.Command.{Command}
use Rattle.core_machine.specs.fleet_rows.declared.refusal.Cause.{Cause}
use Rattle.core_machine.specs.fleet_rows.declared.settings.Ttls.{Ttls}
use Rattle.core_machine.specs.core_spec.declared.event.Event.{Event}
use Rattle.core_machine.specs.core_spec.declared.event.Event.TheVariants.{Discard}
use Rattle.core_machine.specs.core_spec.Discards.{dead_of, put_dead}
use Rattle.core_machine.specs.core_spec.History.{History, command}
use Rattle.core_machine.specs.core_spec.Legal.{IsLegal}

abbrev pub IsNoDiscard : Event → Type 0
IsNoDiscard (Discard r cause) = ⊥
IsNoDiscard _ = Unit {0}

abbrev pub DiscardsArePut : Type 0
DiscardsArePut =
    (ttls : Ttls) (r : ℕ) (c : Command) (cause : Cause) (earlier : History) → IsLegal ttls (Discard r cause ∷ earlier) → command r earlier ≡ Some c
    → dead_of (Discard r cause ∷ earlier) ≡ put_dead (record { receipt = r; command = c; cause = cause }) (dead_of earlier)

abbrev pub OthersDiscardNothing : Type 0
OthersDiscardNothing = (ttls : Ttls) (e : Event) (earlier : History) → IsLegal ttls (e ∷ earlier) → IsNoDiscard e → dead_of (e ∷ earlier) ≡ dead_of earlier
