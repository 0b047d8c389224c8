use Rattle.store_records.proofs.Records.{store_not}
use Rattle.store_records.proofs.laws.other_bytes_are_no_record.Goals as goal

pub returns : goal.returns
returns c = store_not
