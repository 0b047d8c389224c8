use Rattle.std.proofs.Common.{◌≡◌, ◌+◌, ◌≤◌, length, drop}
use Rattle.log_spec.specs.ImageOf.{frame_texts, AllShort}
use Rattle.record_log.specs.Lay.{AnyLong}
use Rattle.record_log.proofs.laid.fits.Given as goal
use Rattle.log_spec.specs.Limits.{most_log}

abbrev pub invariant-adding : goal.invariant-adding
invariant-adding l =
    let rest = drop l.frame-index l.frames in
    record {
      bound : l.size ≤ most_log;
      size : l.size + length (frame_texts rest) ≡ 17 + length (frame_texts l.frames);
      short : AllShort rest → AllShort l.frames;
      long : AnyLong rest → AnyLong l.frames;
    }
