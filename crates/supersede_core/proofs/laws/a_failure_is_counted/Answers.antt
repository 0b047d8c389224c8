use Rattle.supersede_core.proofs.TwoCalls.{failure_is_counted}
use Rattle.supersede_core.proofs.laws.a_failure_is_counted.Goals as goal

pub returns : goal.returns
returns c = failure_is_counted
