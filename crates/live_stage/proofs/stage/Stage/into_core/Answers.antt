use Rattle.std.proofs.Common.{subst}
use Rattle.core_ends.specs.core_course.Sight.{sight_of}
use Rattle.live_stage.specs.Causes.{AreNoted}
use Rattle.live_stage.proofs.stage.Stage.into_core.Goals as goal

pub returns-clause-causes : goal.returns-clause-causes
returns-clause-causes g c = subst (AreNoted (sight_of g.D.Disk g.K.Keeper)) c.self.view_is c.self.invariant.0.4
