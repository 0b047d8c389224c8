use Rattle.std.proofs.Common.{subst, sym, rules}
use Rattle.paging_text.specs.Shown.{written_text}
use Rattle.query_engine.specs.Tables.{world_of}
use Rattle.http_routes.specs.Course.{outside, IsAnswered}
use Rattle.http_routes.specs.Inbox.{Takes}
use Rattle.http_routes.proofs.Answering.{not_routed, command_answered, asked_answered, alone_answered, is_query, may_be_submitted}
use Rattle.http_routes.proofs.link.answered.Goals as goal

pub submit-requires : goal.submit-requires
submit-requires g c =
    let may = may_be_submitted c.args.now c.args.request c.in_ok-routed.routed c.in-Command.command c.in-Command.is c.in_ok-routed.ensures in
    record { payload = may.0; received = may.1 }

pub answer_prepared-requires : goal.answer_prepared-requires
answer_prepared-requires g c = record { asked = is_query c.args.now c.args.request c.in_ok-routed.routed c.in-Query.request c.in-Query.is c.in_ok-routed.ensures }

pub returns-in_err-routed-clause-answer : goal.returns-in_err-routed-clause-answer
returns-in_err-routed-clause-answer g c =
    let inbox = c.args.inbox.now in
    let old = c.args.patterns.now in
    not_routed (Takes g.I.Inbox.held g.I.Inbox.does) (world_of (g.I.Inbox.shown inbox) (g.P.Patterns.says old)) written_text c.args.now c.args.request inbox
    (g.P.Patterns.asked old) (g.P.Patterns.refusals old) _ (search rules)

pub returns-in-Command-clause-answer : goal.returns-in-Command-clause-answer
returns-in-Command-clause-answer g c =
    let inbox = c.args.inbox.now in
    let old = c.args.patterns.now in
    command_answered (Takes g.I.Inbox.held g.I.Inbox.does) (world_of (g.I.Inbox.shown inbox) (g.P.Patterns.says old)) written_text c.args.now c.args.request inbox
    (g.P.Patterns.asked old) (g.P.Patterns.refusals old) c.answer_submitted.result c.in_ok-routed.routed c.in-Command.command c.submit.result c.submit.new.self c.in-Command.is c.in_ok-routed.ensures
    (c.submit.ensures.submits, c.submit.ensures.does) c.answer_submitted.ensures.told c.answer_submitted.ensures.code

pub returns-in-Query-clause-answer : goal.returns-in-Query-clause-answer
returns-in-Query-clause-answer g c =
    let inbox = c.args.inbox.now in
    let old = c.args.patterns.now in
    let new = c.answer_prepared.new.patterns in
    let w = world_of (g.I.Inbox.shown inbox) (g.P.Patterns.says old) in
    let step = Takes g.I.Inbox.held g.I.Inbox.does in
    subst (λ after. IsAnswered step w written_text c.args.now c.args.request (outside inbox (g.P.Patterns.asked old) (g.P.Patterns.refusals old))
    (outside after (g.P.Patterns.asked new) (g.P.Patterns.refusals new)) c.answer_prepared.result) (sym c.answer_prepared.ensures.inbox)
    (asked_answered step w written_text c.args.now c.args.request inbox (g.P.Patterns.asked old) (g.P.Patterns.refusals old) c.answer_prepared.result c.in_ok-routed.routed c.in-Query.request
    (g.P.Patterns.asked new) (g.P.Patterns.refusals new) c.in-Query.is c.in_ok-routed.ensures c.answer_prepared.ensures.answer c.answer_prepared.ensures.code)

pub returns-in-Done-clause-answer : goal.returns-in-Done-clause-answer
returns-in-Done-clause-answer g c =
    let inbox = c.args.inbox.now in
    let old = c.args.patterns.now in
    alone_answered (Takes g.I.Inbox.held g.I.Inbox.does) (world_of (g.I.Inbox.shown inbox) (g.P.Patterns.says old)) written_text c.args.now c.args.request inbox
    (g.P.Patterns.asked old) (g.P.Patterns.refusals old) c.in_ok-routed.routed c.in-Done.answer c.in-Done.is c.in_ok-routed.ensures
