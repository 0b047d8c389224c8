use Rattle.std.proofs.Common.{◌∙◌, ◌++◌, sym, ap}
use Rattle.query_reading.specs.Fetched.{one_in}
use Rattle.query_reading.proofs.facts.push_fact.Goals as goal

pub returns-clause-value : goal.returns-clause-value
returns-clause-value g c = c.in_ok-push.ensures.ok ∙ ap (λ o. c.args.facts.now ++ one_in o) (sym c.in_ok-row.ensures.row.1)
