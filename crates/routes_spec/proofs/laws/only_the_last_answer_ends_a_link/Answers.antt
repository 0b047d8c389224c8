use Rattle.routes_spec.proofs.Endings.{link_closes}
use Rattle.routes_spec.proofs.laws.only_the_last_answer_ends_a_link.Goals as goal

pub returns : goal.returns
returns c = link_closes
