use Rattle.std.proofs.Common.{ℕ, List}
use Rattle.paging_params.specs.Params.{last_under}
use Rattle.query_engine.specs.Tables.{world_of}
use Rattle.http_routes.proofs.Asking.{rows_told}
use Rattle.http_routes.proofs.ask.rows_answer.Goals as goal

pub returns-clause-answer : goal.returns-clause-answer
returns-clause-answer g c =
    let old = c.args.patterns.now in
    let new = c.select_uncounted-picked.new.patterns in
    rows_told (world_of c.args.tables.now (g.P.Patterns.says old)) c.args.ends c.args.query.now (λ (name : List ℕ). last_under name c.args.params.now)
    (g.P.Patterns.asked old) (g.P.Patterns.asked new) (g.P.Patterns.refusals old) (g.P.Patterns.refusals new) c.select_uncounted-picked.result c.picked_answer.result
    c.select_uncounted-picked.ensures.answer c.select_uncounted-picked.ensures.asked c.select_uncounted-picked.ensures.cause c.picked_answer.ensures.answer
