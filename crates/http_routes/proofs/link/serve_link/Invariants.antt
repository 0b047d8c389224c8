-- So far each request was answered and the link goes on: what is served from here on is served from its first byte on.
use Rattle.std.proofs.Common.{◌≡◌, ℕ, List, false}
use Rattle.http_front.specs.Link.{limited}
use Rattle.http_front.specs.Next.{unread}
use Rattle.paging_text.specs.Shown.{written_text}
use Rattle.query_engine.specs.Tables.{world_of}
use Rattle.http_routes.specs.Inbox.{Takes}
use Rattle.http_routes.specs.Course.{outside, Continues, GoesSoFar, AreFewIfTold}
use Rattle.http_routes.proofs.link.serve_link.Given as goal

abbrev pub invariant-serving : goal.invariant-serving
invariant-serving g l = record {
  goes :
      Continues (Takes g.I.Inbox.held g.I.Inbox.does) (world_of (g.I.Inbox.shown l.fn.inbox) (g.P.Patterns.says l.fn.patterns)) written_text l.now (limited 0 (g.S.Source.left l.fn.link.incoming))
      (outside l.fn.inbox (g.P.Patterns.asked l.fn.patterns) (g.P.Patterns.refusals l.fn.patterns)) (g.K.Sink.held l.fn.link.outgoing)
      (unread l.reading (g.S.Source.left l.link.incoming))
      (outside l.inbox (g.P.Patterns.asked l.patterns) (g.P.Patterns.refusals l.patterns)) (g.K.Sink.held l.link.outgoing);
  so_far :
      GoesSoFar (Takes g.I.Inbox.held g.I.Inbox.does) (world_of (g.I.Inbox.shown l.fn.inbox) (g.P.Patterns.says l.fn.patterns)) written_text l.now (limited 0 (g.S.Source.left l.fn.link.incoming))
      (outside l.fn.inbox (g.P.Patterns.asked l.fn.patterns) (g.P.Patterns.refusals l.fn.patterns)) (g.K.Sink.held l.fn.link.outgoing)
      (unread l.reading (g.S.Source.left l.link.incoming))
      (outside l.inbox (g.P.Patterns.asked l.patterns) (g.P.Patterns.refusals l.patterns)) (g.K.Sink.held l.link.outgoing);
  few : AreFewIfTold (limited 0 (g.S.Source.left l.fn.link.incoming)) l._served (unread l.reading (g.S.Source.left l.link.incoming));
  shown : g.I.Inbox.shown l.inbox ≡ g.I.Inbox.shown l.fn.inbox;
  same : (p t : List ℕ) → g.P.Patterns.says l.patterns p t ≡ g.P.Patterns.says l.fn.patterns p t;
  stays : l.reading.over ≡ false;
  reads : g.S.Source.fault_count l.link.incoming ≡ g.S.Source.fault_count l.fn.link.incoming;
  writes : g.K.Sink.fault_count l.link.outgoing ≡ g.K.Sink.fault_count l.fn.link.outgoing;
}
