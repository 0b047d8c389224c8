use Rattle.std.proofs.Common.{◌∙◌, ap, rules, subst}
use Rattle.paging_text.specs.Shown.{written_text}
use Rattle.query_engine.specs.Tables.{world_of}
use Rattle.routes_spec.specs.Reading.{IsReadFor}
use Rattle.http_routes.specs.Asked.{AnswersAsked}
use Rattle.http_routes.specs.Routed.{IsAskedAnswer}
use Rattle.http_routes.proofs.Inquiring.{nothing_read}
use Rattle.http_routes.proofs.preparing.answer_prepared.Goals as goal

pub answer_inquiry-requires : goal.answer_inquiry-requires
answer_inquiry-requires g c = record { asked = c.requires.asked; inquiry = c.in_ok-inquiry.ensures }

pub returns-in_err-inquiry-clause-answer : goal.returns-in_err-inquiry-clause-answer
returns-in_err-inquiry-clause-answer g c =
    let old = c.args.patterns.now in
    let r = c.args.request.now in
    nothing_read r (IsAskedAnswer (world_of (g.I.Inbox.shown c.args.inbox.now) (g.P.Patterns.says old)) written_text r) (g.P.Patterns.asked old) (g.P.Patterns.refusals old) _ c.requires.asked (search rules)

pub returns-clause-answer : goal.returns-clause-answer
returns-clause-answer g c =
    let old = c.args.patterns.now in
    let new = c.answer_inquiry.new.patterns in
    subst (λ t. AnswersAsked (g.P.Patterns.asked old) (g.P.Patterns.asked new) (g.P.Patterns.refusals old) (g.P.Patterns.refusals new)
    (IsReadFor c.args.request.now) (IsAskedAnswer (world_of t (g.P.Patterns.says old)) written_text c.args.request.now) c.answer_inquiry.result)
    (c.tables.ensures ∙ ap g.I.Inbox.shown c.prepare_inquiry.ensures) c.answer_inquiry.ensures.answer
