use Rattle.store_records.proofs.Records.{store_told}
use Rattle.store_records.proofs.laws.a_spelling_has_one_record.Goals as goal

pub returns : goal.returns
returns c = store_told
