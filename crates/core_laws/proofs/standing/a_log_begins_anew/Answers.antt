use Rattle.core_laws.proofs.QueueCheckpoints.{queue_checkpoints_are_logs, logs_are_bounded}
use Rattle.core_laws.proofs.standing.a_log_begins_anew.Goals as goal

pub returns-clause-checkpoint : goal.returns-clause-checkpoint
returns-clause-checkpoint c = queue_checkpoints_are_logs

pub returns-clause-bounded : goal.returns-clause-bounded
returns-clause-bounded c = logs_are_bounded
