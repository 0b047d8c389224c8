use Rattle.core_laws.proofs.DeadReplays.{records_lead_to_the_discards}
use Rattle.core_laws.proofs.Missing.{records_lead_to_the_pending, records_lead_to_the_last_receipt, records_lead_to_the_trace}
use Rattle.core_laws.proofs.log.records_lead_to_the_history.Goals as goal

pub returns-clause-pending : goal.returns-clause-pending
returns-clause-pending c = records_lead_to_the_pending

pub returns-clause-last : goal.returns-clause-last
returns-clause-last c = records_lead_to_the_last_receipt

pub returns-clause-trace : goal.returns-clause-trace
returns-clause-trace c = records_lead_to_the_trace

pub returns-clause-discards : goal.returns-clause-discards
returns-clause-discards c = records_lead_to_the_discards
