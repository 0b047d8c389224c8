use Rattle.std.proofs.Common.{◌∙◌, sym, refl}
use Rattle.core_ends.specs.core_course.Sight.{sight_of}
use Rattle.http_front.specs.Link.{limited}
use Rattle.http_front.specs.Next.{unread}
use Rattle.http_routes.proofs.Answering.{body_is_small}
use Rattle.http_routes.proofs.Ends.{goes_on_open, reads_on, writes_on, reads_behind, writes_behind, fault_told}
use Rattle.live_links.proofs.Serving.{request_goes, bad_goes, ended_goes, unread_goes, memory_goes}
use Rattle.live_links.proofs.link.serve_next.Goals as goal

pub answered-answer-requires : goal.answered-answer-requires
answered-answer-requires g c = record {
  now = c.requires.now;
  body =
      body_is_small c.in-Request.request (unread c.args.reading.now (g.S.Source.left c.args.link.now.incoming)) (unread c.next_request.new.incoming (g.S.Source.left c.next_request.new.link))
      c.in-Request.ensures.request;
  pass = c.requires.pass;
  first = c.requires.first;
}

pub returns-in-Request-clause-served : goal.returns-in-Request-clause-served
returns-in-Request-clause-served g c =
    let known = unread c.args.reading.now (g.S.Source.left c.args.link.now.incoming) in
    let left = unread c.next_request.new.incoming (g.S.Source.left c.next_request.new.link) in
    let rest = limited c.next_request.new.incoming.taken (g.S.Source.left c.next_request.new.link) in
    request_goes (sight_of g.D.Disk g.K.Keeper) (g.P.Patterns.says c.args.patterns.now) c.args.now g.K.Keeper.generation known left rest (g.O.Sink.held c.args.link.now.outgoing) (g.O.Sink.held c.send.new.outgoing)
    c.in-Request.request c.in-Request.ensures.request c.args.pass.now c.answered-answer.new.pass (g.P.Patterns.asked c.args.patterns.now) (g.P.Patterns.asked c.answered-answer.new.patterns)
    (g.P.Patterns.refusals c.args.patterns.now) (g.P.Patterns.refusals c.answered-answer.new.patterns) c.send.result c.answered-answer.result c.end_of.result c.end_of.ensures c.send.ensures.sent c.answered-answer.ensures.answer

pub returns-in-Request-clause-ongoing : goal.returns-in-Request-clause-ongoing
returns-in-Request-clause-ongoing g c = λ none. c.in-Request.ensures.over ∙ goes_on_open c.send.result c.in-Request.request.ends (sym c.end_of.ensures ∙ none)

pub returns-in-Request-clause-reads : goal.returns-in-Request-clause-reads
returns-in-Request-clause-reads g c =
    reads_on (g.S.Source.fault_count c.args.link.now.incoming) (g.S.Source.fault_count c.next_request.new.link) c.send.result c.in-Request.request.ends c.end_of.result c.end_of.ensures
    (λ h. cc) c.in-Request.ensures.cause

pub returns-in-Request-clause-writes : goal.returns-in-Request-clause-writes
returns-in-Request-clause-writes g c =
    writes_on (g.O.Sink.fault_count c.args.link.now.outgoing) (g.O.Sink.fault_count c.send.new.outgoing) c.send.result c.in-Request.request.ends c.end_of.result c.end_of.ensures c.send.ensures.cause

pub returns-in-Bad-clause-served : goal.returns-in-Bad-clause-served
returns-in-Bad-clause-served g c =
    let known = unread c.args.reading.now (g.S.Source.left c.args.link.now.incoming) in
    let left = unread c.next_request.new.incoming (g.S.Source.left c.next_request.new.link) in
    let rest = limited c.next_request.new.incoming.taken (g.S.Source.left c.next_request.new.link) in
    let fault = c.in-Bad.fault in
    bad_goes (sight_of g.D.Disk g.K.Keeper) (g.P.Patterns.says c.args.patterns.now) c.args.now g.K.Keeper.generation known left rest (g.O.Sink.held c.args.link.now.outgoing) (g.O.Sink.held c.send-in-Bad.new.outgoing)
    c.args.pass.now (g.P.Patterns.asked c.args.patterns.now) (g.P.Patterns.refusals c.args.patterns.now) fault c.send-in-Bad.result c.error-answer.result c.end_behind.result c.end_behind.ensures c.in-Bad.ensures.bad
    (fault_told fault c.error-answer.result c.fault_code.result c.fault_text.result.now c.fault_code.ensures c.fault_text.ensures c.error-answer.ensures) c.send-in-Bad.ensures.sent

pub returns-in-Bad-clause-reads : goal.returns-in-Bad-clause-reads
returns-in-Bad-clause-reads g c =
    reads_behind (g.S.Source.fault_count c.args.link.now.incoming) (g.S.Source.fault_count c.next_request.new.link) c.send-in-Bad.result c.end_behind.result c.end_behind.ensures (λ h. cc) c.in-Bad.ensures.cause

pub returns-in-Bad-clause-writes : goal.returns-in-Bad-clause-writes
returns-in-Bad-clause-writes g c =
    writes_behind (g.O.Sink.fault_count c.args.link.now.outgoing) (g.O.Sink.fault_count c.send-in-Bad.new.outgoing) c.send-in-Bad.result c.end_behind.result c.end_behind.ensures c.send-in-Bad.ensures.cause

pub returns-in-Ended-clause-served : goal.returns-in-Ended-clause-served
returns-in-Ended-clause-served g c =
    let known = unread c.args.reading.now (g.S.Source.left c.args.link.now.incoming) in
    let left = unread c.next_request.new.incoming (g.S.Source.left c.next_request.new.link) in
    let rest = limited c.next_request.new.incoming.taken (g.S.Source.left c.next_request.new.link) in
    let held = g.O.Sink.held c.args.link.now.outgoing in
    ended_goes (sight_of g.D.Disk g.K.Keeper) (g.P.Patterns.says c.args.patterns.now) c.args.now g.K.Keeper.generation known left rest held held c.args.pass.now (g.P.Patterns.asked c.args.patterns.now)
    (g.P.Patterns.refusals c.args.patterns.now) (c.in-Ended.ensures.ended c.requires.ongoing) refl

pub returns-in-ReadFault-clause-served : goal.returns-in-ReadFault-clause-served
returns-in-ReadFault-clause-served g c =
    let known = unread c.args.reading.now (g.S.Source.left c.args.link.now.incoming) in
    let left = unread c.next_request.new.incoming (g.S.Source.left c.next_request.new.link) in
    let rest = limited c.next_request.new.incoming.taken (g.S.Source.left c.next_request.new.link) in
    let held = g.O.Sink.held c.args.link.now.outgoing in
    unread_goes (sight_of g.D.Disk g.K.Keeper) (g.P.Patterns.says c.args.patterns.now) c.args.now g.K.Keeper.generation known left rest held held c.args.pass.now (g.P.Patterns.asked c.args.patterns.now)
    (g.P.Patterns.refusals c.args.patterns.now) (c.in-ReadFault.ensures.fault refl) refl

pub returns-in-Memory-clause-served : goal.returns-in-Memory-clause-served
returns-in-Memory-clause-served g c =
    let known = unread c.args.reading.now (g.S.Source.left c.args.link.now.incoming) in
    let left = unread c.next_request.new.incoming (g.S.Source.left c.next_request.new.link) in
    let rest = limited c.next_request.new.incoming.taken (g.S.Source.left c.next_request.new.link) in
    memory_goes (sight_of g.D.Disk g.K.Keeper) (g.P.Patterns.says c.args.patterns.now) c.args.now g.K.Keeper.generation known left rest (g.O.Sink.held c.args.link.now.outgoing) (g.O.Sink.held c.send_memory.new.outgoing)
    c.args.pass.now (g.P.Patterns.asked c.args.patterns.now) (g.P.Patterns.refusals c.args.patterns.now) c.send_memory.result c.end_behind-in-Memory.result c.end_behind-in-Memory.ensures c.send_memory.ensures.sent

pub returns-in-Memory-clause-reads : goal.returns-in-Memory-clause-reads
returns-in-Memory-clause-reads g c =
    reads_behind (g.S.Source.fault_count c.args.link.now.incoming) (g.S.Source.fault_count c.next_request.new.link) c.send_memory.result c.end_behind-in-Memory.result c.end_behind-in-Memory.ensures (λ h. cc) c.in-Memory.ensures.cause

pub returns-in-Memory-clause-writes : goal.returns-in-Memory-clause-writes
returns-in-Memory-clause-writes g c =
    writes_behind (g.O.Sink.fault_count c.args.link.now.outgoing) (g.O.Sink.fault_count c.send_memory.new.outgoing) c.send_memory.result c.end_behind-in-Memory.result c.end_behind-in-Memory.ensures c.send_memory.ensures.cause
