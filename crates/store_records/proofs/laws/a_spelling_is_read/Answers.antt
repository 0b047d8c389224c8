use Rattle.store_records.proofs.Records.{store_again}
use Rattle.store_records.proofs.laws.a_spelling_is_read.Goals as goal

pub returns : goal.returns
returns c = store_again
