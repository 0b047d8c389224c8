use Rattle.routes_spec.proofs.LinkReadings.{link_read}
use Rattle.routes_spec.proofs.laws.answered_requests_are_those_of_the_link.Goals as goal

pub returns : goal.returns
returns c = link_read
