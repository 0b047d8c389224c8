-- What becomes of each command.
use Rattle.std.specs.Prelude.{◌≡◌, ◌↔◌, ℕ, suc, ◌==◌, ℤ, [], ◌∷◌, ◌++◌, map, Bool, true, false, if◌then◌else◌, Option, Some, None, is_some, Ok, Err}
use Rattle.std.specs.List.{Contains}
use Rattle.core_machine.specs.fleet_rows.declared.change.Change.{Change}
use Rattle.core_machine.specs.fleet_rows.declared.command.Group.{Group}
use Rattle.core_machine.specs.fleet_rows.declared.refusal.Cause.{Cause}
use Rattle.core_machine.specs.fleet_rows.declared.refusal.Cause.TheVariants.{Refused, Failures}
use Rattle.core_machine.specs.fleet_rows.declared.refusal.Refusal.{Refusal}
use Rattle.core_machine.specs.fleet_rows.declared.settings.Ttls.{Ttls}
use Rattle.core_machine.specs.history_spec.Trace.{receipts}
use Rattle.core_machine.specs.core_spec.declared.entry.Entry.{Entry}
use Rattle.core_machine.specs.core_spec.declared.event.Event.TheVariants.{Apply, Supersede, Discard}
use Rattle.core_machine.specs.core_spec.History as history
use Rattle.core_machine.specs.core_spec.History.{History, Standing, command, answer, key, standing, fails, trace_of}
use Rattle.core_machine.specs.core_spec.Legal.{IsLegal, IsBelow, rank_at}
use Rattle.core_machine.specs.core_spec.Pending.{pending_of}

pub data Outcome : Type 0 where
  pending : Outcome
  applied : Outcome
  superseded_by : ℕ → Outcome
  discarded : Cause → Outcome

-- the outcome of a command's state, or None if the command wasn't submitted
abbrev pub outcome_of : Standing → Option Outcome
outcome_of history.unknown = None
outcome_of history.queued = Some pending
outcome_of history.claimed = Some pending
outcome_of history.applied = Some applied
outcome_of (history.superseded p) = Some (superseded_by p)
outcome_of (history.discarded cause) = Some (discarded cause)

abbrev pub outcome : ℕ → History → Option Outcome
outcome r events = outcome_of (standing r events)

abbrev pub has_ended : Option Outcome → Bool
has_ended None = false
has_ended (Some pending) = false
has_ended (Some applied) = true
has_ended (Some (superseded_by p)) = true
has_ended (Some (discarded cause)) = true

-- ---- one outcome

-- a command has an outcome exactly if it was submitted
abbrev pub SubmittedCommandsHaveAnOutcome : Type 0
SubmittedCommandsHaveAnOutcome = (ttls : Ttls) (events : History) (r : ℕ) → IsLegal ttls events → is_some (outcome r events) ≡ is_some (command r events)

-- the number of events that ended the command
abbrev pub endings : ℕ → History → ℕ
endings r [] = 0
endings r (Apply q t ∷ earlier) = if q == r then suc (endings r earlier) else endings r earlier
endings r (Supersede q p ∷ earlier) = if q == r then suc (endings r earlier) else endings r earlier
endings r (Discard q cause ∷ earlier) = if q == r then suc (endings r earlier) else endings r earlier
endings r (_ ∷ earlier) = endings r earlier

-- exactly one event ends a command that isn't pending, and none ends a pending one
abbrev pub CommandsEndOnce : Type 0
CommandsEndOnce = (ttls : Ttls) (events : History) (r : ℕ) → IsLegal ttls events → endings r events ≡ (if has_ended (outcome r events) then 1 else 0)

-- an ending stays, whatever events follow
abbrev pub EndingsStay : Type 0
EndingsStay =
    (ttls : Ttls) (later earlier : History) (r : ℕ) → IsLegal ttls (later ++ earlier) → has_ended (outcome r earlier) ≡ true
    → outcome r (later ++ earlier) ≡ outcome r earlier

-- a command is pending exactly if it is in the list of pending commands
abbrev pub PendingCommandsWait : Type 0
PendingCommandsWait =
    (ttls : Ttls) (events : History) (r : ℕ) → IsLegal ttls events
    → (outcome r events ≡ Some pending) ↔ Contains (map (λ (e : Entry). e.receipt) (pending_of events)) r

-- if nothing is pending, each submitted command has ended
abbrev pub AllHaveEndedWhereNothingWaits : Type 0
AllHaveEndedWhereNothingWaits =
    (ttls : Ttls) (events : History) (r : ℕ) → IsLegal ttls events → pending_of events ≡ [] → has_ended (outcome r events) ≡ is_some (command r events)

-- every earlier part of a legal history is legal
abbrev pub EarlierPartsAreLegal : Type 0
EarlierPartsAreLegal = (ttls : Ttls) (later earlier : History) → IsLegal ttls (later ++ earlier) → IsLegal ttls earlier

-- ---- what an ending means

-- a command was applied exactly if its receipt is in the trace
abbrev pub AppliedCommandsStandInTheTrace : Type 0
AppliedCommandsStandInTheTrace =
    (ttls : Ttls) (events : History) (r : ℕ) → IsLegal ttls events → (outcome r events ≡ Some applied) ↔ Contains (receipts (trace_of events)) r

abbrev pub AppliedCommandsDecode : Type 0
AppliedCommandsDecode =
    (ttls : Ttls) (events : History) (r : ℕ) → IsLegal ttls events → outcome r events ≡ Some applied → (change : Change) × (answer r events ≡ Some (Ok change))

-- a newer command of its group was applied
pub record IsReplaced (q p : ℕ) (events : History) : Type 0 where
  pub group : Group
  pub stamp : ℤ
  pub newer : ℤ
  pub key_is : key q events ≡ Some (group, stamp)
  pub newer_key_is : key p events ≡ Some (group, newer)
  pub below : IsBelow (rank_at stamp q) (rank_at newer p)
  pub newer_is_applied : outcome p events ≡ Some applied

abbrev pub SupersededCommandsAreReplaced : Type 0
SupersededCommandsAreReplaced = (ttls : Ttls) (events : History) (q p : ℕ) → IsLegal ttls events → outcome q events ≡ Some (superseded_by p) → IsReplaced q p events

-- a command that was discarded for a refusal decodes to that refusal
abbrev pub RefusedCommandsAreRefused : Type 0
RefusedCommandsAreRefused =
    (ttls : Ttls) (events : History) (r : ℕ) (refusal : Refusal) → IsLegal ttls events → outcome r events ≡ Some (discarded (Refused refusal))
    → answer r events ≡ Some (Err refusal)

abbrev pub GivenUpCommandsFailedSixteenTimes : Type 0
GivenUpCommandsFailedSixteenTimes =
    (ttls : Ttls) (events : History) (r : ℕ) → IsLegal ttls events → outcome r events ≡ Some (discarded Failures) → fails r events ≡ 16
