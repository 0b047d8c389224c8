use Rattle.history_laws.proofs.Spools.{spools_have_one_reading, bytes_have_some_reading}
use Rattle.history_laws.proofs.spool.a_spool_has_one_reading.Goals as goal

pub returns : goal.returns
returns c = record { some = bytes_have_some_reading; one = spools_have_one_reading }
