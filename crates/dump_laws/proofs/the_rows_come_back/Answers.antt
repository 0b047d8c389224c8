use Rattle.dump_laws.proofs.Rows.{the_rows_come_back}
use Rattle.dump_laws.proofs.the_rows_come_back.Goals as goal

pub returns : goal.returns
returns c = the_rows_come_back
