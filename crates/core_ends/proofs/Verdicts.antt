-- What a worker decodes is what the command decodes to, and meets its rules.
use Rattle.std.proofs.Common.{subst}
use Rattle.command_decode.specs.fleet_rows.declared.change.Change.{Change}
use Rattle.command_decode.specs.fleet_rows.declared.command.Command.{Command}
use Rattle.command_decode.specs.history_spec.Lawful.{IsChange}
use Rattle.command_decode.specs.wire_spec.Decode.{DecodeOf}
use Rattle.command_decode.proofs.of_wire_laws.LawfulChanges.{decoded_changes_are_lawful}
use Rattle.command_core.specs.core_state.Seen.{IsFit}
pub use Rattle.command_core.proofs.Verdicts.{is_change, is_refusal}
use Rattle.command_core.proofs.of_core_laws.Keys.{answer_decodes}
use Rattle.command_core.specs.core_settles.declared.answers.Verdict.TheVariants as verdict
use Rattle.command_core.specs.core_settles.Settles.{IsVerdictOf}

-- what a command that may be settled decodes to meets its rules
pub is_lawful : (c : Command) (change : Change) → IsFit c → IsVerdictOf (verdict.Change change) c → IsChange change
is_lawful c change fit decodes = decoded_changes_are_lawful c change fit.1 (subst (DecodeOf c) decodes (answer_decodes c))
