-- The pass stays, and what is kept are tables of the first events.
use Rattle.std.proofs.Common.{◌≡◌, IfSome}
use Rattle.live_stage.specs.core_ends.core_course.Sight.{sight_of}
use Rattle.live_stage.specs.lock_calls.Calls.{Lasts}
use Rattle.live_stage.specs.Trace.{HasFirstIn}
use Rattle.stage_bench.proofs.threads.ask_by.Given as goal

abbrev pub invariant-asking : goal.invariant-asking
invariant-asking g l = (l.lane.lock ≡ l.fn.lane.lock) × (l.lane.spares ≡ l.fn.lane.spares) × IfSome l.kept (λ s. Lasts (HasFirstIn (sight_of g.D.Disk g.K.Keeper) s) l.lane.seen)
