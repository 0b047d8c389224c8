use Rattle.queue_records.proofs.Records.{queue_not}
use Rattle.queue_records.proofs.laws.other_bytes_are_no_record.Goals as goal

pub returns : goal.returns
returns c = queue_not
