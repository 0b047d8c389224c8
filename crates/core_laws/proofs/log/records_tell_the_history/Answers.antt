use Rattle.core_laws.proofs.Missing.{the_missing_done_is_told, the_same_records_tell_alike, the_same_records_tell_one_trace}
use Rattle.core_laws.proofs.log.records_tell_the_history.Goals as goal

pub returns-clause-missing : goal.returns-clause-missing
returns-clause-missing c = the_missing_done_is_told

pub returns-clause-alike : goal.returns-clause-alike
returns-clause-alike c = the_same_records_tell_alike

pub returns-clause-trace : goal.returns-clause-trace
returns-clause-trace c = the_same_records_tell_one_trace
