use Rattle.http_spec.proofs.HeadEnds.{head_ends, head_stands}
use Rattle.http_spec.proofs.laws.a_head_ends_once.Goals as goal

pub returns-clause-ends : goal.returns-clause-ends
returns-clause-ends c = head_ends

pub returns-clause-stands : goal.returns-clause-stands
returns-clause-stands c = head_stands
