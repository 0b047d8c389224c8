use Rattle.query_reach.proofs.Found.{chosen_rows_are_found}
use Rattle.query_reach.proofs.Within.{plans_read_the_bound}
use Rattle.query_reach.proofs.laws.plans_stay_in_reach.Goals as goal

pub returns-clause-found : goal.returns-clause-found
returns-clause-found c = chosen_rows_are_found

pub returns-clause-bound : goal.returns-clause-bound
returns-clause-bound c = plans_read_the_bound
