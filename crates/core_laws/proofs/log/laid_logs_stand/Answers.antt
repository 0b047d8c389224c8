use Rattle.core_laws.proofs.LaidLogs.{laid_logs_stand, lifetimes_are_told}
use Rattle.core_laws.proofs.log.laid_logs_stand.Goals as goal

pub returns-clause-laid : goal.returns-clause-laid
returns-clause-laid c = laid_logs_stand

pub returns-clause-lifetimes : goal.returns-clause-lifetimes
returns-clause-lifetimes c = lifetimes_are_told
