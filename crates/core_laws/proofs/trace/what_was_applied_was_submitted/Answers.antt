use Rattle.core_laws.proofs.Reasons.{applied_commands_were_submitted}
use Rattle.core_laws.proofs.trace.what_was_applied_was_submitted.Goals as goal

pub returns : goal.returns
returns c = applied_commands_were_submitted
