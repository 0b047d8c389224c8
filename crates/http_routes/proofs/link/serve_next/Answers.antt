use Rattle.std.proofs.Common.{sym, subst, refl, inl, ◌∙◌}
use Rattle.http_front.specs.Link.{limited}
use Rattle.http_front.specs.Next.{unread}
use Rattle.paging_text.specs.Shown.{written_text}
use Rattle.query_engine.specs.Tables.{world_of}
use Rattle.routes_spec.specs.Links.{IsGiven, IsMetBefore}
use Rattle.http_routes.specs.Inbox.{Takes}
use Rattle.http_routes.specs.Course.{outside, MovesOutside, IsServedNext, Serves}
use Rattle.http_routes.specs.declared.link.LinkEnd.TheVariants.{ReadFault}
use Rattle.routes_spec.proofs.of_plain_laws.Options.{some_is}
use Rattle.http_routes.proofs.Answering.{body_is_small}
use Rattle.http_routes.proofs.Ends.{goes_on_open, never_read, never_read_behind, reads_on, writes_on, reads_behind, writes_behind, fault_told}
use Rattle.http_routes.proofs.LinkSteps.{request_served, bad_served, ended_served, unread_served, stopped_served, memory_served}
use Rattle.http_routes.proofs.link.serve_next.Goals as goal

pub answered-answer-requires : goal.answered-answer-requires
answered-answer-requires g c = record {
  now = c.requires.now;
  body =
      body_is_small c.in-Request.request (unread c.args.reading.now (g.S.Source.left c.args.link.now.incoming)) (unread c.next_request.new.incoming (g.S.Source.left c.next_request.new.link))
      c.in-Request.ensures.request;
}

pub returns-in-Request-clause-served : goal.returns-in-Request-clause-served
returns-in-Request-clause-served g c =
    let w = world_of (g.I.Inbox.shown c.args.inbox.now) (g.P.Patterns.says c.args.patterns.now) in
    let known = unread c.args.reading.now (g.S.Source.left c.args.link.now.incoming) in
    let left = unread c.next_request.new.incoming (g.S.Source.left c.next_request.new.link) in
    let old = outside c.args.inbox.now (g.P.Patterns.asked c.args.patterns.now) (g.P.Patterns.refusals c.args.patterns.now) in
    let new = outside c.answered-answer.new.inbox (g.P.Patterns.asked c.answered-answer.new.patterns) (g.P.Patterns.refusals c.answered-answer.new.patterns) in
    let held = g.K.Sink.held c.args.link.now.outgoing in
    let holds = g.K.Sink.held c.send.new.outgoing in
    subst (λ o. IsServedNext (Takes g.I.Inbox.held g.I.Inbox.does) w written_text c.args.now o known left old new held holds) (sym c.end_of.ensures)
    (request_served (IsGiven w written_text c.args.now) (IsMetBefore w written_text c.args.now) (MovesOutside (Takes g.I.Inbox.held g.I.Inbox.does)) c.in-Request.request known left old new held holds c.in-Request.ensures.request
    (λ met a given. inl (a, given.is_answer)) c.send.result c.answered-answer.result c.answered-answer.ensures.answer c.send.ensures.sent)

pub returns-in-Request-clause-ongoing : goal.returns-in-Request-clause-ongoing
returns-in-Request-clause-ongoing g c = λ none. c.in-Request.ensures.over ∙ goes_on_open c.send.result c.in-Request.request.ends (sym c.end_of.ensures ∙ none)

pub returns-in-Request-clause-reads : goal.returns-in-Request-clause-reads
returns-in-Request-clause-reads g c =
    reads_on (g.S.Source.fault_count c.args.link.now.incoming) (g.S.Source.fault_count c.next_request.new.link) c.send.result c.in-Request.request.ends c.end_of.result c.end_of.ensures
    (λ h. cc) c.in-Request.ensures.cause

pub returns-in-Request-clause-writes : goal.returns-in-Request-clause-writes
returns-in-Request-clause-writes g c =
    writes_on (g.K.Sink.fault_count c.args.link.now.outgoing) (g.K.Sink.fault_count c.send.new.outgoing) c.send.result c.in-Request.request.ends c.end_of.result c.end_of.ensures c.send.ensures.cause

pub returns-in-Bad-clause-served : goal.returns-in-Bad-clause-served
returns-in-Bad-clause-served g c =
    let w = world_of (g.I.Inbox.shown c.args.inbox.now) (g.P.Patterns.says c.args.patterns.now) in
    let known = unread c.args.reading.now (g.S.Source.left c.args.link.now.incoming) in
    let old = outside c.args.inbox.now (g.P.Patterns.asked c.args.patterns.now) (g.P.Patterns.refusals c.args.patterns.now) in
    let held = g.K.Sink.held c.args.link.now.outgoing in
    let holds = g.K.Sink.held c.send-in-Bad.new.outgoing in
    let fault = c.in-Bad.fault in
    subst (λ e. Serves (Takes g.I.Inbox.held g.I.Inbox.does) w written_text c.args.now e known old old held holds) (sym c.end_behind.ensures)
    (bad_served (IsGiven w written_text c.args.now) (IsMetBefore w written_text c.args.now) (MovesOutside (Takes g.I.Inbox.held g.I.Inbox.does)) known old held holds fault c.send-in-Bad.result c.error-answer.result c.in-Bad.ensures.bad
    (fault_told fault c.error-answer.result c.fault_code.result c.fault_text.result.now c.fault_code.ensures c.fault_text.ensures c.error-answer.ensures) c.send-in-Bad.ensures.sent)

pub returns-in-Bad-clause-reads : goal.returns-in-Bad-clause-reads
returns-in-Bad-clause-reads g c =
    reads_behind (g.S.Source.fault_count c.args.link.now.incoming) (g.S.Source.fault_count c.next_request.new.link) c.send-in-Bad.result c.end_behind.result c.end_behind.ensures (λ h. cc) c.in-Bad.ensures.cause

pub returns-in-Bad-clause-writes : goal.returns-in-Bad-clause-writes
returns-in-Bad-clause-writes g c =
    writes_behind (g.K.Sink.fault_count c.args.link.now.outgoing) (g.K.Sink.fault_count c.send-in-Bad.new.outgoing) c.send-in-Bad.result c.end_behind.result c.end_behind.ensures c.send-in-Bad.ensures.cause

pub returns-in-Ended-clause-served : goal.returns-in-Ended-clause-served
returns-in-Ended-clause-served g c =
    let w = world_of (g.I.Inbox.shown c.args.inbox.now) (g.P.Patterns.says c.args.patterns.now) in
    let known = unread c.args.reading.now (g.S.Source.left c.args.link.now.incoming) in
    let old = outside c.args.inbox.now (g.P.Patterns.asked c.args.patterns.now) (g.P.Patterns.refusals c.args.patterns.now) in
    let held = g.K.Sink.held c.args.link.now.outgoing in
    ended_served (IsGiven w written_text c.args.now) (IsMetBefore w written_text c.args.now) (MovesOutside (Takes g.I.Inbox.held g.I.Inbox.does)) known old held held (c.in-Ended.ensures.ended c.requires.ongoing) refl

pub returns-in-ReadFault-clause-served : goal.returns-in-ReadFault-clause-served
returns-in-ReadFault-clause-served g c =
    let w = world_of (g.I.Inbox.shown c.args.inbox.now) (g.P.Patterns.says c.args.patterns.now) in
    let known = unread c.args.reading.now (g.S.Source.left c.args.link.now.incoming) in
    let old = outside c.args.inbox.now (g.P.Patterns.asked c.args.patterns.now) (g.P.Patterns.refusals c.args.patterns.now) in
    let held = g.K.Sink.held c.args.link.now.outgoing in
    unread_served (IsGiven w written_text c.args.now) (IsMetBefore w written_text c.args.now) (MovesOutside (Takes g.I.Inbox.held g.I.Inbox.does)) known old held held refl

pub returns-in-Memory-clause-served : goal.returns-in-Memory-clause-served
returns-in-Memory-clause-served g c =
    let w = world_of (g.I.Inbox.shown c.args.inbox.now) (g.P.Patterns.says c.args.patterns.now) in
    let known = unread c.args.reading.now (g.S.Source.left c.args.link.now.incoming) in
    let old = outside c.args.inbox.now (g.P.Patterns.asked c.args.patterns.now) (g.P.Patterns.refusals c.args.patterns.now) in
    let held = g.K.Sink.held c.args.link.now.outgoing in
    let holds = g.K.Sink.held c.send_memory.new.outgoing in
    subst (λ e. Serves (Takes g.I.Inbox.held g.I.Inbox.does) w written_text c.args.now e known old old held holds) (sym c.end_behind-in-Memory.ensures)
    (memory_served (IsGiven w written_text c.args.now) (IsMetBefore w written_text c.args.now) (MovesOutside (Takes g.I.Inbox.held g.I.Inbox.does)) known old held holds c.send_memory.result c.send_memory.ensures.sent)

pub returns-in-Memory-clause-reads : goal.returns-in-Memory-clause-reads
returns-in-Memory-clause-reads g c =
    reads_behind (g.S.Source.fault_count c.args.link.now.incoming) (g.S.Source.fault_count c.next_request.new.link) c.send_memory.result c.end_behind-in-Memory.result c.end_behind-in-Memory.ensures (λ h. cc) c.in-Memory.ensures.cause

pub returns-in-Memory-clause-writes : goal.returns-in-Memory-clause-writes
returns-in-Memory-clause-writes g c =
    writes_behind (g.K.Sink.fault_count c.args.link.now.outgoing) (g.K.Sink.fault_count c.send_memory.new.outgoing) c.send_memory.result c.end_behind-in-Memory.result c.end_behind-in-Memory.ensures c.send_memory.ensures.cause

-- ---- what was served before reading failed

pub returns-in-Request-clause-so_far : goal.returns-in-Request-clause-so_far
returns-in-Request-clause-so_far g c = λ h. absurd (never_read c.send.result c.in-Request.request.ends (sym c.end_of.ensures ∙ h))

pub returns-in-Bad-clause-so_far : goal.returns-in-Bad-clause-so_far
returns-in-Bad-clause-so_far g c = λ h. absurd (never_read_behind c.send-in-Bad.result (sym c.end_behind.ensures ∙ some_is c.end_behind.result ReadFault h))

pub returns-in-Memory-clause-so_far : goal.returns-in-Memory-clause-so_far
returns-in-Memory-clause-so_far g c = λ h. absurd (never_read_behind c.send_memory.result (sym c.end_behind-in-Memory.ensures ∙ some_is c.end_behind-in-Memory.result ReadFault h))

pub returns-in-ReadFault-clause-so_far : goal.returns-in-ReadFault-clause-so_far
returns-in-ReadFault-clause-so_far g c = λ _.
    let w = world_of (g.I.Inbox.shown c.args.inbox.now) (g.P.Patterns.says c.args.patterns.now) in
    let known = unread c.args.reading.now (g.S.Source.left c.args.link.now.incoming) in
    let rest = limited c.next_request.new.incoming.taken (g.S.Source.left c.next_request.new.link) in
    let old = outside c.args.inbox.now (g.P.Patterns.asked c.args.patterns.now) (g.P.Patterns.refusals c.args.patterns.now) in
    let held = g.K.Sink.held c.args.link.now.outgoing in
    stopped_served (IsGiven w written_text c.args.now) (IsMetBefore w written_text c.args.now) (MovesOutside (Takes g.I.Inbox.held g.I.Inbox.does)) known rest old held held refl (c.in-ReadFault.ensures.fault refl)
