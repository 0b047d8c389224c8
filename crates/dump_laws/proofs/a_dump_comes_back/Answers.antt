use Rattle.dump_laws.proofs.Rows.{dumps_come_back}
use Rattle.dump_laws.proofs.a_dump_comes_back.Goals as goal

pub returns : goal.returns
returns c = dumps_come_back
