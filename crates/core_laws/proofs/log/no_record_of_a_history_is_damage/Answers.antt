use Rattle.core_laws.proofs.QueueCheckpoints.{no_queue_record_is_damage}
use Rattle.core_laws.proofs.StoreLogs.{no_store_record_is_damage}
use Rattle.core_laws.proofs.log.no_record_of_a_history_is_damage.Goals as goal

pub returns-clause-queue : goal.returns-clause-queue
returns-clause-queue c = no_queue_record_is_damage

pub returns-clause-store : goal.returns-clause-store
returns-clause-store c = no_store_record_is_damage
