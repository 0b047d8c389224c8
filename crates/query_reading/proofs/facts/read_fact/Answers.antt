use Rattle.std.proofs.Common.{◌∙◌, ◌++◌, sym, ap, append-nil}
use Rattle.std.proofs.lemmas.Result.{IfOk-weaker}
use Rattle.query_reading.specs.Fetched.{one_in}
use Rattle.query_reading.proofs.FetchedLaws.{fact_there}
use Rattle.query_reading.proofs.facts.read_fact.Goals as goal

pub returns-in-Some-clause-value : goal.returns-in-Some-clause-value
returns-in-Some-clause-value g c =
    IfOk-weaker c.push_fact.result _ _
    (λ u h. h ∙ ap (λ o. c.args.facts.now ++ one_in o) (c.in-Some.ensures.row ∙ fact_there c.args.tables.now c.args.node.now c.args.name.now))
    c.push_fact.ensures.value

pub returns-in-None-clause-value : goal.returns-in-None-clause-value
returns-in-None-clause-value g c =
    sym (append-nil c.args.facts.now) ∙ ap (λ o. c.args.facts.now ++ one_in o) (c.in-None.ensures.row ∙ fact_there c.args.tables.now c.args.node.now c.args.name.now)
