use Rattle.routes_spec.proofs.OneAnswer.{one_answer}
use Rattle.routes_spec.proofs.laws.a_request_has_one_answer.Goals as goal

pub returns : goal.returns
returns c = one_answer
