use Rattle.dump_laws.proofs.LeadsBack.{dumps_are_spools}
use Rattle.dump_laws.proofs.a_dump_is_a_spool.Goals as goal

pub returns : goal.returns
returns c = dumps_are_spools
