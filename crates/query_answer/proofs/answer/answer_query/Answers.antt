use Rattle.query_engine.specs.Tables.{world_of}
use Rattle.query_answer.proofs.Answered.{rows_told, history_told, counts_then}
use Rattle.query_answer.proofs.answer.answer_query.Goals as goal

pub returns-clause-answer : goal.returns-clause-answer
returns-clause-answer g c =
    rows_told (world_of c.args.tables.now (g.P.Patterns.says c.args.patterns.now)) c.args.query.now (g.P.Patterns.asked c.args.patterns.now) (g.P.Patterns.asked c.select_uncounted.new.patterns)
    c.select_uncounted.result c.written.result c.select_uncounted.ensures.answer c.select_uncounted.ensures.asked c.written.ensures

pub returns-clause-stands : goal.returns-clause-stands
returns-clause-stands g c = λ history s.
    history_told c.args.tables.now history (g.P.Patterns.says c.args.patterns.now) c.args.query.now (g.P.Patterns.asked c.args.patterns.now) (g.P.Patterns.asked c.select_uncounted.new.patterns) c.written.result s
    (rows_told (world_of c.args.tables.now (g.P.Patterns.says c.args.patterns.now)) c.args.query.now (g.P.Patterns.asked c.args.patterns.now) (g.P.Patterns.asked c.select_uncounted.new.patterns)
    c.select_uncounted.result c.written.result c.select_uncounted.ensures.answer c.select_uncounted.ensures.asked c.written.ensures)

pub returns-clause-cause : goal.returns-clause-cause
returns-clause-cause g c = counts_then _ _ c.select_uncounted.result c.written.result c.written.ensures c.select_uncounted.ensures.cause
