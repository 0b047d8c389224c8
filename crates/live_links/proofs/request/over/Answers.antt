use Rattle.std.proofs.Common.{◌∙◌, sym, subst, rules}
use Rattle.http_routes.specs.Asked.{AnswersAsked}
use Rattle.http_routes.specs.paging_text.Shown.{written_text}
use Rattle.http_routes.specs.query_engine.Tables.{world_of}
use Rattle.http_routes.specs.routes.Reading.{IsReadFor}
use Rattle.http_routes.specs.Routed.{IsAskedAnswer}
use Rattle.live_links.specs.QuerySteps.{AnswersOver, AnswersLook}
use Rattle.live_links.proofs.Requests.{few_look, over_look, uncaught_look}
use Rattle.live_links.proofs.request.over.Goals as goal

pub returns-then-lacks-clause-answer : goal.returns-then-lacks-clause-answer
returns-then-lacks-clause-answer g c =
    let at = AnswersOver (g.P.Patterns.says c.args.patterns.now) c.args.snapshot.now in
    let asked = g.P.Patterns.asked c.args.patterns.now in
    let count = g.P.Patterns.refusals c.args.patterns.now in
    subst (λ n. AnswersLook at c.args.least n c.args.request.now asked asked count count c.numbered.result) c.seen-seen.ensures
    (few_look at c.args.least c.seen-seen.result c.args.request.now asked count c.error.result c.numbered.result c.numbered.ensures (sym c.lacks.ensures ∙ c.if-lacks.true) c.error.ensures)

pub returns-in_err-catch_up-clause-answer : goal.returns-in_err-catch_up-clause-answer
returns-in_err-catch_up-clause-answer g c =
    uncaught_look (AnswersOver (g.P.Patterns.says c.args.patterns.now) c.catch_up.new.self) c.args.least c.args.snapshot.now.seen c.args.request.now c.requires.query (g.P.Patterns.asked c.args.patterns.now)
    (g.P.Patterns.refusals c.args.patterns.now) _ (search rules)

pub returns-clause-answer : goal.returns-clause-answer
returns-clause-answer g c =
    let says = g.P.Patterns.says c.args.patterns.now in
    let caught = c.catch_up.new.self in
    let old = c.args.patterns.now in
    let new = c.answer_query.new.patterns in
    let asked = g.P.Patterns.asked in
    let count = g.P.Patterns.refusals in
    let r = c.args.request.now in
    let answer =
    subst (λ t. AnswersAsked (asked old) (asked new) (count old) (count new) (IsReadFor r) (IsAskedAnswer (world_of t says) written_text r) c.answer_query.result) c.tables.ensures c.answer_query.ensures.answer in
    subst (λ n. AnswersLook (AnswersOver says caught) c.args.least n r (asked old) (asked new) (count old) (count new) c.numbered-2.result) c.seen-seen.ensures
    (over_look says caught c.args.least c.seen-seen.result r (asked old) (asked new) (count old) (count new) c.answer_query.result c.numbered-2.result c.numbered-2.ensures (sym c.lacks.ensures ∙ c.if-lacks.false)
    c.in_ok-catch_up.ensures.ok answer c.answer_query.ensures.code)
