use Rattle.core_laws.proofs.Failures.{failures_are_few, failures_are_counted}
use Rattle.core_laws.proofs.failure.failures_are_counted.Goals as goal

pub returns-clause-few : goal.returns-clause-few
returns-clause-few c = failures_are_few

pub returns-clause-counted : goal.returns-clause-counted
returns-clause-counted c = failures_are_counted
