use Rattle.std.proofs.Common.{subst}
use Rattle.std.specs.declared.alloc.AllocError.{AllocError}
use Rattle.query_engine.specs.Tables.{world_of}
use Rattle.http_routes.specs.Inquiries.{IsInquiryFor}
use Rattle.http_routes.proofs.Inquiring.{rows_for, done_for, done_code}
use Rattle.http_routes.proofs.ask.answer_inquiry.Goals as goal

pub returns-in-Rows-clause-answer : goal.returns-in-Rows-clause-answer
returns-in-Rows-clause-answer g c =
    let old = c.args.patterns.now in
    let new = c.rows_answer.new.patterns in
    let r = c.args.request.now in
    rows_for (world_of c.args.tables.now (g.P.Patterns.says old)) r c.in-Rows.query c.in-Rows.params (g.P.Patterns.asked old) (g.P.Patterns.asked new)
    (g.P.Patterns.refusals old) (g.P.Patterns.refusals new) c.rows_answer.result c.rows_answer.ensures.answer c.requires.asked (subst (IsInquiryFor r) c.in-Rows.is c.requires.inquiry)

pub returns-in-Done-clause-answer : goal.returns-in-Done-clause-answer
returns-in-Done-clause-answer g c =
    let old = c.args.patterns.now in
    let r = c.args.request.now in
    done_for AllocError (world_of c.args.tables.now (g.P.Patterns.says old)) r c.in-Done.answer (g.P.Patterns.asked old) (g.P.Patterns.refusals old) c.requires.asked (subst (IsInquiryFor r) c.in-Done.is c.requires.inquiry)

pub returns-in-Done-clause-code : goal.returns-in-Done-clause-code
returns-in-Done-clause-code g c =
    let r = c.args.request.now in
    let inquiry = subst (IsInquiryFor r) c.in-Done.is c.requires.inquiry in
    done_code inquiry.0 r c.in-Done.answer inquiry.2
