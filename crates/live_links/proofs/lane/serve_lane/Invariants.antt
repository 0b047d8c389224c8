-- So far some links were served, each taken and given back.
use Rattle.std.proofs.Common.{◌≡◌, ℕ, List, IfSome}
use Rattle.core_ends.specs.core_course.Sight.{sight_of}
use Rattle.live_stage.specs.lock_calls.Calls.{Lasts}
use Rattle.live_front.specs.Courses.{link_seen}
use Rattle.live_stage.specs.Trace.{HasFirstIn}
use Rattle.live_links.proofs.LaneLinks.{Served}
use Rattle.live_links.proofs.lane.serve_lane.Given as goal

abbrev pub invariant-links : goal.invariant-links
invariant-links g l = record {
  served :
      Served (sight_of g.D.Disk g.K.Keeper) g.K.Keeper.generation (g.P.Patterns.says l.fn.patterns) l.now (link_seen g.F.Incoming.Source g.F.Outgoing.Sink) l.fn.front_pass l.front_pass l.fn.pass l.pass
      (g.P.Patterns.asked l.fn.patterns) (g.P.Patterns.asked l.patterns) (g.P.Patterns.refusals l.fn.patterns) (g.P.Patterns.refusals l.patterns);
  lock : l.pass.lock ≡ l.fn.pass.lock;
  spares : l.pass.spares ≡ l.fn.pass.spares;
  front_lock : l.front_pass.lock ≡ l.fn.front_pass.lock;
  front_spares : l.front_pass.spares ≡ l.fn.front_pass.spares;
  first : IfSome l.kept (λ s. Lasts (HasFirstIn (sight_of g.D.Disk g.K.Keeper) s) l.pass.seen);
  same : (p t : List ℕ) → g.P.Patterns.says l.patterns p t ≡ g.P.Patterns.says l.fn.patterns p t;
}
