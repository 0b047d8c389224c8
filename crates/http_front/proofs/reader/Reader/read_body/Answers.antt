use Rattle.std.proofs.Common.{refl}
use Rattle.http_front.proofs.reader.Reader.read_body.Goals as goal

pub returns-in-Whole-clause-body : goal.returns-in-Whole-clause-body
returns-in-Whole-clause-body g c = (c.in-Whole.body.items, c.in-Whole.ensures.body.0, c.in-Whole.ensures.body.1, c.with_body.ensures)

pub returns-in-Failed-clause-fault : goal.returns-in-Failed-clause-fault
returns-in-Failed-clause-fault g c = λ _. c.in-Failed.ensures.fault refl
