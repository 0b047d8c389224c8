use Rattle.core_laws.proofs.WaitingRecords.{what_waits_is_told}
use Rattle.core_laws.proofs.standing.what_waits_is_told.Goals as goal

pub returns : goal.returns
returns c = what_waits_is_told
