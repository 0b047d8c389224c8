use Rattle.std.proofs.Common.{refl}
use Rattle.pql_reader.proofs.read.ends.Goals as goal

pub returns-in-Some : goal.returns-in-Some
returns-in-Some c = c.in-Some.ensures

pub returns-in-None : goal.returns-in-None
returns-in-None c = λ fs. (c.in-None.ensures fs, refl)
