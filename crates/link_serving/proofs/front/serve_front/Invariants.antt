-- So far each link that was handed out was served, as many as there were turns.
use Rattle.std.proofs.Common.{◌≡◌, ℕ, List, length}
use Rattle.http_routes.specs.paging_text.Shown.{written_text}
use Rattle.http_routes.specs.query_engine.Tables.{world_of}
use Rattle.http_routes.specs.Course.{outside}
use Rattle.http_routes.specs.Inbox.{Takes}
use Rattle.front_port.specs.Links.{Given}
use Rattle.link_serving.specs.Serving.{front_seen, ServesLinks}
use Rattle.link_serving.proofs.front.serve_front.Given as goal

abbrev pub invariant-serving : goal.invariant-serving
invariant-serving g l = record {
  served :
      (links : List Given)
      × (length links ≡ l._served)
      × ServesLinks (Takes g.I.Inbox.held g.I.Inbox.does) (world_of (g.I.Inbox.shown l.fn.inbox) (g.P.Patterns.says l.fn.patterns)) written_text l.now links
      (front_seen (g.F.Front.left l.fn.front) (g.F.Front.handed_out l.fn.front) (g.F.Front.given_back l.fn.front))
      (front_seen (g.F.Front.left l.front) (g.F.Front.handed_out l.front) (g.F.Front.given_back l.front))
      (outside l.fn.inbox (g.P.Patterns.asked l.fn.patterns) (g.P.Patterns.refusals l.fn.patterns))
      (outside l.inbox (g.P.Patterns.asked l.patterns) (g.P.Patterns.refusals l.patterns));
  shown : g.I.Inbox.shown l.inbox ≡ g.I.Inbox.shown l.fn.inbox;
  same : (p t : List ℕ) → g.P.Patterns.says l.patterns p t ≡ g.P.Patterns.says l.fn.patterns p t;
  listens : g.F.Front.listens l.front ≡ g.F.Front.listens l.fn.front;
  calm : g.F.Front.fault_count l.front ≡ g.F.Front.fault_count l.fn.front;
}
