use Rattle.core_laws.proofs.StandingRecords.{queue_records_go_on, store_records_go_on, queue_checkpoints_tell, store_checkpoints_tell}
use Rattle.core_laws.proofs.standing.records_go_on.Goals as goal

pub returns-clause-queue : goal.returns-clause-queue
returns-clause-queue c = queue_records_go_on

pub returns-clause-store : goal.returns-clause-store
returns-clause-store c = store_records_go_on

pub returns-clause-queue_checkpoint : goal.returns-clause-queue_checkpoint
returns-clause-queue_checkpoint c = queue_checkpoints_tell

pub returns-clause-store_checkpoint : goal.returns-clause-store_checkpoint
returns-clause-store_checkpoint c = store_checkpoints_tell
