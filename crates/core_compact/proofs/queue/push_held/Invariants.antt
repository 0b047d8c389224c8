use Rattle.std.proofs.Common.{◌≡◌, ◌++◌, drop, map}
use Rattle.core_state.specs.core_spec.Checkpoints.{held}
use Rattle.core_compact.specs.Anew.{AreRead}
use Rattle.core_compact.proofs.Frames.{texts}
use Rattle.core_compact.proofs.queue.push_held.Given as goal

abbrev pub invariant-writing : goal.invariant-writing
invariant-writing l =
    (l.frames ++ texts held (drop l.i l.pending) ≡ l.initial.frames ++ texts held l.pending) × (AreRead (map held (drop l.i l.pending)) → AreRead (map held l.pending))
