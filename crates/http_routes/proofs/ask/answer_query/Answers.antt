use Rattle.std.proofs.Common.{rules}
use Rattle.paging_text.specs.Shown.{written_text}
use Rattle.query_engine.specs.Tables.{world_of}
use Rattle.routes_spec.specs.means_spec.OutRows.{lines_text}
use Rattle.routes_spec.specs.means_spec.World as spec
use Rattle.http_routes.specs.Routed.{IsAskedAnswer}
use Rattle.http_routes.proofs.Inquiring.{nothing_read}
use Rattle.http_routes.proofs.Prints.{history_asked}
use Rattle.http_routes.proofs.ask.answer_query.Goals as goal

pub answer_inquiry-requires : goal.answer_inquiry-requires
answer_inquiry-requires g c = record { asked = c.requires.asked; inquiry = c.in_ok-inquiry.ensures }

pub returns-in_err-inquiry-clause-answer : goal.returns-in_err-inquiry-clause-answer
returns-in_err-inquiry-clause-answer g c =
    let old = c.args.patterns.now in
    let r = c.args.request.now in
    nothing_read r (IsAskedAnswer (world_of c.args.tables.now (g.P.Patterns.says old)) written_text r) (g.P.Patterns.asked old) (g.P.Patterns.refusals old) _ c.requires.asked (search rules)

pub returns-in_err-inquiry-clause-stands : goal.returns-in_err-inquiry-clause-stands
returns-in_err-inquiry-clause-stands g c = λ history stands.
    let old = c.args.patterns.now in
    let r = c.args.request.now in
    nothing_read r (IsAskedAnswer (spec.world_of c.args.tables.now.ttls history (g.P.Patterns.says old)) lines_text r) (g.P.Patterns.asked old) (g.P.Patterns.refusals old) _ c.requires.asked (search rules)

pub returns-clause-stands : goal.returns-clause-stands
returns-clause-stands g c = λ history stands.
    let old = c.args.patterns.now in
    let new = c.answer_inquiry.new.patterns in
    history_asked c.args.tables.now history (g.P.Patterns.says old) stands c.args.request.now
    (g.P.Patterns.asked old) (g.P.Patterns.asked new) (g.P.Patterns.refusals old) (g.P.Patterns.refusals new) c.answer_inquiry.result c.answer_inquiry.ensures.answer
