use Rattle.http_spec.proofs.Fronts.{one_front}
use Rattle.http_spec.proofs.laws.one_thing_stands_at_the_front.Goals as goal

pub returns : goal.returns
returns c = one_front
