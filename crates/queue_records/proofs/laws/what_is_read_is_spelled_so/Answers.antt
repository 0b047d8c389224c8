use Rattle.queue_records.proofs.Records.{queue_takes}
use Rattle.queue_records.proofs.laws.what_is_read_is_spelled_so.Goals as goal

pub returns : goal.returns
returns c = queue_takes
