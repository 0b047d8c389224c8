use Rattle.store_records.proofs.Records.{store_takes}
use Rattle.store_records.proofs.laws.what_is_read_is_spelled_so.Goals as goal

pub returns : goal.returns
returns c = store_takes
