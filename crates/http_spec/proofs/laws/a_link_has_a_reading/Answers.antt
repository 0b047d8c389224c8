use Rattle.http_spec.proofs.SomeFront.{a_reading}
use Rattle.http_spec.proofs.laws.a_link_has_a_reading.Goals as goal

pub returns : goal.returns
returns c = a_reading
