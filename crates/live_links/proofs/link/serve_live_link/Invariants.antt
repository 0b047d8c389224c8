-- So far each request was answered and the link goes on: what is served from here on is served from its first byte on.
use Rattle.std.proofs.Common.{◌≡◌, ℕ, List, false, IfSome}
use Rattle.core_ends.specs.core_course.Sight.{sight_of}
use Rattle.http_front.specs.Next.{unread}
use Rattle.live_stage.specs.lock_calls.Calls.{Lasts}
use Rattle.live_stage.specs.Trace.{HasFirstIn}
use Rattle.live_links.specs.Lanes.{LaneGoes}
use Rattle.live_links.proofs.Serving.{SoFar}
use Rattle.live_links.proofs.link.serve_live_link.Given as goal

abbrev pub invariant-serving : goal.invariant-serving
invariant-serving g l = record {
  goes :
      LaneGoes (sight_of g.D.Disk g.K.Keeper) g.K.Keeper.generation l.fn.pass l.pass (g.P.Patterns.asked l.fn.patterns) (g.P.Patterns.asked l.patterns) (g.P.Patterns.refusals l.fn.patterns) (g.P.Patterns.refusals l.patterns)
      (SoFar (sight_of g.D.Disk g.K.Keeper) (g.P.Patterns.says l.fn.patterns) l.now g.K.Keeper.generation (g.S.Source.left l.fn.link.incoming) (g.O.Sink.held l.fn.link.outgoing) l._served
      (unread l.reading (g.S.Source.left l.link.incoming)) (g.O.Sink.held l.link.outgoing));
  lock : l.pass.lock ≡ l.fn.pass.lock;
  spares : l.pass.spares ≡ l.fn.pass.spares;
  first : IfSome l.kept (λ s. Lasts (HasFirstIn (sight_of g.D.Disk g.K.Keeper) s) l.pass.seen);
  same : (p t : List ℕ) → g.P.Patterns.says l.patterns p t ≡ g.P.Patterns.says l.fn.patterns p t;
  stays : l.reading.over ≡ false;
  reads : g.S.Source.fault_count l.link.incoming ≡ g.S.Source.fault_count l.fn.link.incoming;
  writes : g.O.Sink.fault_count l.link.outgoing ≡ g.O.Sink.fault_count l.fn.link.outgoing;
}
