use Rattle.routes_spec.proofs.Closing.{answer_unseen}
use Rattle.routes_spec.proofs.laws.no_answer_tells_what_was_seen.Goals as goal

pub returns : goal.returns
returns c = answer_unseen
