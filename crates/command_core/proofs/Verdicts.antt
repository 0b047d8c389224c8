-- What a worker decodes is what the command decodes to.
use Rattle.std.proofs.Common.{Ok, Err}
use Rattle.core_layout.specs.fleet_rows.declared.change.Change.{Change}
use Rattle.core_layout.specs.fleet_rows.declared.command.Command.{Command}
use Rattle.core_layout.specs.fleet_rows.declared.refusal.Refusal.{Refusal}
use Rattle.core_settles.specs.core_claims.wire_spec.Decode.{DecodeOf}
use Rattle.core_submits.proofs.of_core_state.of_wire_laws.OneAnswer.{commands_have_one_answer}
use Rattle.core_layout.specs.core_spec.Commands.{answer_of}
use Rattle.core_submits.proofs.of_core_laws.Keys.{answer_decodes}
use Rattle.core_settles.specs.declared.answers.Verdict.TheVariants as verdict
use Rattle.core_settles.specs.Settles.{IsVerdictOf}

pub is_change : (c : Command) (change : Change) → DecodeOf c (Ok change) → IsVerdictOf (verdict.Change change) c
is_change c change decoded = commands_have_one_answer c (answer_of c) (Ok change) (answer_decodes c) decoded

pub is_refusal : (c : Command) (refusal : Refusal) → DecodeOf c (Err refusal) → IsVerdictOf (verdict.Refused refusal) c
is_refusal c refusal decoded = commands_have_one_answer c (answer_of c) (Err refusal) (answer_decodes c) decoded
