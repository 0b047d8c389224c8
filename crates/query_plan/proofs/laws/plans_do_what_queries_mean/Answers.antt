use Rattle.query_plan.proofs.Solved.{plans_select_rows, plans_tell_sums}
use Rattle.query_plan.proofs.laws.plans_do_what_queries_mean.Goals as goal

pub returns-clause-rows : goal.returns-clause-rows
returns-clause-rows c = plans_select_rows

pub returns-clause-sums : goal.returns-clause-sums
returns-clause-sums c = plans_tell_sums
