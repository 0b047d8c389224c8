use Rattle.std.proofs.Common.{◌≡◌, ◌+◌, drop, length}
use Rattle.log_pair.specs.log_spec.ImageOf.{frame_texts}
use Rattle.fleet_keeper.proofs.memory.size_with.Given as goal

abbrev pub invariant-adding : goal.invariant-adding
invariant-adding l = l.size + length (frame_texts (drop l.frame-index l.frames)) ≡ 17 + length (frame_texts l.frames)
