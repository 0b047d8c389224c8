-- The pass stays, and what is kept are tables of the first events.
use Rattle.std.proofs.Common.{◌≡◌, IfSome}
use Rattle.live_stage.specs.core_ends.core_course.Sight.{sight_of}
use Rattle.live_stage.specs.lock_calls.Calls.{Lasts}
use Rattle.live_stage.specs.Trace.{HasFirstIn}
use Rattle.stage_bench.proofs.threads.look_for.Given as goal

abbrev pub invariant-looks : goal.invariant-looks
invariant-looks g l = (l.hand.lock ≡ l.fn.hand.lock) × (l.hand.spares ≡ l.fn.hand.spares) × IfSome l.kept (λ s. Lasts (HasFirstIn (sight_of g.D.Disk g.K.Keeper) s) l.hand.seen)
