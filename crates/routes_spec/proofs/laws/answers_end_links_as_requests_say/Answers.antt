use Rattle.routes_spec.proofs.Closing.{answer_closes}
use Rattle.routes_spec.proofs.laws.answers_end_links_as_requests_say.Goals as goal

pub returns : goal.returns
returns c = answer_closes
