use Rattle.std.proofs.Common.{false, subst}
use Rattle.core_ends.specs.core_course.Sight.{sight_of}
use Rattle.hub_calls.specs.Follows.{Follows}
use Rattle.live_stage.specs.Notes.{StageView}
use Rattle.live_stage.specs.Causes.{AreNoted}
use Rattle.live_stage.proofs.stage.Stage.is_followed.Goals as goal

pub returns-clause-follows : goal.returns-clause-follows
returns-clause-follows g c = subst (λ (s : StageView g.row.D.Denot g.row.K.Denot). Follows (sight_of g.D.Disk g.K.Keeper) false s.start s.core) c.self.view_is c.self.invariant.2

pub returns-clause-causes : goal.returns-clause-causes
returns-clause-causes g c = subst (AreNoted (sight_of g.D.Disk g.K.Keeper)) c.self.view_is c.self.invariant.0.4
