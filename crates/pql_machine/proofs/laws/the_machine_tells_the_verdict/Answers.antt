use Rattle.pql_machine.proofs.Law.{verdict_means}
use Rattle.pql_machine.proofs.laws.the_machine_tells_the_verdict.Goals as goal

pub returns : goal.returns
returns c = verdict_means
