use Rattle.std.proofs.Common.{◌≡◌, ◌++◌, drop, map}
use Rattle.core_state.specs.core_spec.Checkpoints.{dead}
use Rattle.core_compact.specs.Anew.{AreRead}
use Rattle.core_compact.proofs.Frames.{texts}
use Rattle.core_compact.proofs.queue.push_dead.Given as goal

abbrev pub invariant-writing : goal.invariant-writing
invariant-writing l =
    (l.frames ++ texts dead (drop l.i l.discards.list) ≡ l.initial.frames ++ texts dead l.discards.list) × (AreRead (map dead (drop l.i l.discards.list)) → AreRead (map dead l.discards.list))
