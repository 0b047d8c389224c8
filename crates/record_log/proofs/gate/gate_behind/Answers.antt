use Rattle.std.proofs.Common.{◌+◌, ◌∷◌, length, drop, ap, arith, length-append}
use Rattle.log_spec.specs.ImageOf.{frame_texts, block_text}
use Rattle.record_log.proofs.Lays.{texts_step}
use Rattle.record_log.proofs.gate.gate_behind.Goals as goal

pub overflow_add-gate : goal.overflow_add-gate
overflow_add-gate c =
    let k = c.adding.frame-index in
    let x = c.frame-item.result in
    let step = texts_step c.args.frames.now k x c.adding-test.true c.frame-item.is in
    omega (arith, c.adding.invariant.place, ap length step, length-append (1 ∷ block_text x) (frame_texts (drop (k + 1) c.args.frames.now)), c.requires.fits.small)
