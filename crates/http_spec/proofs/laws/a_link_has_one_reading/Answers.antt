use Rattle.std.specs.Prelude.{take}
use Rattle.http_spec.proofs.Links.{one_reading}
use Rattle.http_spec.proofs.laws.a_link_has_one_reading.Goals as goal
use Rattle.http_spec.specs.Limits.{most_link}

pub returns-clause-front : goal.returns-clause-front
returns-clause-front c = one_reading

pub returns-clause-link : goal.returns-clause-link
returns-clause-link c bytes = one_reading (take most_link bytes)
