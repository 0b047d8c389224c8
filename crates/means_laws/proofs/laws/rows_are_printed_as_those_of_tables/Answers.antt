use Rattle.std.proofs.Common.{refl}
use Rattle.means_laws.proofs.laws.rows_are_printed_as_those_of_tables.Goals as goal

pub returns : goal.returns
returns c = λ e rows. refl
