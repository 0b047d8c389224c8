use Rattle.http_spec.proofs.SomeFront.{something}
use Rattle.http_spec.proofs.laws.something_stands_at_the_front.Goals as goal

pub returns : goal.returns
returns c = something
