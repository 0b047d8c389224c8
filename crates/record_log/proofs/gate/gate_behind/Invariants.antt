use Rattle.std.proofs.Common.{◌≡◌, ◌+◌, length, drop}
use Rattle.log_spec.specs.ImageOf.{frame_texts}
use Rattle.record_log.proofs.gate.gate_behind.Given as goal

abbrev pub invariant-adding : goal.invariant-adding
invariant-adding l = record { place : l.gate + length (frame_texts (drop l.frame-index l.frames)) ≡ 16 + length (frame_texts l.frames) }
