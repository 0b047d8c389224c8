-- Which events may come next.
use Rattle.std.specs.Prelude.{◌≡◌, ◌≢◌, ◌⊎◌, ℕ, [], Some, None, Err}
use Rattle.core_machine.specs.fleet_rows.declared.command.Command.{Command}
use Rattle.core_machine.specs.fleet_rows.declared.refusal.Cause.TheVariants.{Refused}
use Rattle.core_machine.specs.fleet_rows.declared.refusal.Refusal.{Refusal}
use Rattle.core_machine.specs.fleet_rows.declared.settings.Ttls.{Ttls}
use Rattle.core_machine.specs.core_spec.declared.event.Event.TheVariants.{Apply, Discard}
use Rattle.core_machine.specs.core_spec.History.{History, command, answer, claimed, standing}
use Rattle.core_machine.specs.core_spec.Legal.{May, IsLegal, IsClaimable, IsOutdated}
use Rattle.core_machine.specs.core_spec.Pending.{pending_of, NoneIsWornOut}

-- ---- a claimed command may end

-- the command may be applied, with the moment at which it was received or without
pub record MayBeApplied (ttls : Ttls) (r : ℕ) (history : History) : Type 0 where
  pub command_is : Command
  pub submitted : command r history ≡ Some command_is
  pub with_moment : May ttls (Apply r (Some command_is.received)) history
  pub without : May ttls (Apply r None) history

-- the command may be discarded for the refusal that it decodes to
pub record MayBeRefused (ttls : Ttls) (r : ℕ) (history : History) : Type 0 where
  pub refusal : Refusal
  pub decodes : answer r history ≡ Some (Err refusal)
  pub discard : May ttls (Discard r (Refused refusal)) history

-- a claimed command may be applied or refused, by what it decodes to
abbrev pub ClaimedCommandsMayEnd : Type 0
ClaimedCommandsMayEnd =
    (ttls : Ttls) (r : ℕ) (history : History) → IsLegal ttls history → standing r history ≡ claimed → MayBeApplied ttls r history ⊎ MayBeRefused ttls r history

-- ---- pending commands go on

-- some command is claimed, or may be claimed, or may be superseded
abbrev pub GoesOn : Ttls → History → Type 0
GoesOn ttls history =
    ((r : ℕ) × (standing r history ≡ claimed)) ⊎ ((r : ℕ) × IsClaimable ttls r history) ⊎ ((q : ℕ) × (p : ℕ) × IsOutdated ttls q p history)

-- whenever commands are pending and none has failed sixteen times, one of them can go on
abbrev pub WaitingCommandsGoOn : Type 0
WaitingCommandsGoOn = (ttls : Ttls) (history : History) → IsLegal ttls history → NoneIsWornOut (pending_of history) → pending_of history ≢ [] → GoesOn ttls history
