-- What was applied and swept in a legal history.
use Rattle.std.specs.Prelude.{◌≡◌, ◌⊎◌, [], ◌∷◌, Some, None, Ok}
use Rattle.core_machine.specs.fleet_rows.declared.applied.Applied.{Applied}
use Rattle.core_machine.specs.fleet_rows.declared.command.Command.{Command}
use Rattle.core_machine.specs.fleet_rows.declared.settings.Ttls.{Ttls}
use Rattle.core_machine.specs.history_spec.Trace.{applied, swept, Trace, IsTrace}
use Rattle.core_machine.specs.core_spec.Commands.{answer_of}
use Rattle.core_machine.specs.core_spec.History.{History, command, trace_of}
use Rattle.core_machine.specs.core_spec.Legal.{IsLegal}

-- it is a trace: lawful changes, moments that a stamp can express, and distinct receipts from 1 on
abbrev pub LegalHistoriesHaveTraces : Type 0
LegalHistoriesHaveTraces = (ttls : Ttls) (history : History) → IsLegal ttls history → IsTrace (trace_of history)

-- The command was submitted under its receipt and decodes to this change. Its moment is the one at which it was received, or
-- none.
pub record IsAsSubmitted (history : History) (x : Applied) : Type 0 where
  pub command_is : Command
  pub submitted : command x.receipt history ≡ Some command_is
  pub decodes : answer_of command_is ≡ Ok x.change
  pub received : (x.received ≡ None) ⊎ (x.received ≡ Some command_is.received)

abbrev pub EachApplied : (Applied → Type 0) → Trace → Type 0
EachApplied P [] = Unit {0}
EachApplied P (applied x ∷ earlier) = P x × EachApplied P earlier
EachApplied P (swept kinds m ∷ earlier) = EachApplied P earlier

abbrev pub AppliedCommandsWereSubmitted : Type 0
AppliedCommandsWereSubmitted = (ttls : Ttls) (history : History) → IsLegal ttls history → EachApplied (IsAsSubmitted history) (trace_of history)
