-- So far the pass is of the lock, with its spares, and went on by turns; and no job is at hand.
use Rattle.std.proofs.Common.{◌≡◌, None}
use Rattle.core_ends.specs.core_course.Sight.{sight_of}
use Rattle.live_stage.specs.StageCalls.{WorksOn}
use Rattle.live_stage.proofs.worker.work.Given as goal

abbrev pub invariant-turns : goal.invariant-turns
invariant-turns g l = (l.pass.lock ≡ l.fn.pass.lock) × (l.pass.spares ≡ l.fn.pass.spares) × WorksOn (sight_of g.D.Disk g.K.Keeper) g.K.Keeper.generation None l.fn.pass None l.pass
