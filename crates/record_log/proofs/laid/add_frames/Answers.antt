use Rattle.std.proofs.Common.{◌≡◌, ◌+◌, ◌++◌, ◌∷◌, List, ℕ, length, drop, sym, ◌∙◌, ap, arith, append_assoc, length-append}
use Rattle.fleet_ports.proofs.Runs.{joins}
use Rattle.log_spec.specs.ImageOf.{frame_texts, block_text}
use Rattle.record_log.specs.Lay.{IsShut}
use Rattle.record_log.proofs.Lays.{texts_step, short_step}
use Rattle.record_log.proofs.laid.add_frames.Goals as goal

pub adding-preserved : goal.adding-preserved
adding-preserved g c =
    let d = g.D.Disk in
    let i = c.adding.invariant in
    let k = c.adding.frame-index in
    let x = c.frame-item.result in
    let frames = c.args.frames.now in
    let T = frame_texts (drop (k + 1) frames) in
    let step = texts_step frames k x c.adding-test.true c.frame-item.is in
    let text : c.as_slice-bytes.result.now ≡ x = c.as_slice-bytes.ensures in
    let size : length c.as_slice-bytes.result.now ≡ length x = ap length text in
    let long : length (1 ∷ block_text x) ≡ 5 + length x = omega arith in
    record {
      low = omega (arith, i.low);
      size = omega (arith, i.size, ap length step, length-append (1 ∷ block_text x) T, long, size);
      short = (short_step frames k x c.adding-test.true c.frame-item.is i.short).1;
      end = λ told. omega (arith, i.end told, size, ap length text, ap length (c.in_ok-add_frame.ensures.written told), length-append (d.seen c.adding.disk) (1 ∷ block_text c.as_slice-bytes.result.now));
      written = λ told.
          ap (λ (s : List ℕ). s ++ T) (c.in_ok-add_frame.ensures.written told ∙ ap (λ (f : List ℕ). d.seen c.adding.disk ++ (1 ∷ block_text f)) text)
          ∙ append_assoc (d.seen c.adding.disk) (1 ∷ block_text x) T
          ∙ ap (λ (l : List ℕ). d.seen c.adding.disk ++ l) (sym step)
          ∙ i.written told;
      shut = λ was. c.add_frame.ensures.shut (i.shut was);
      moments = λ was. joins d.moment d.left_since c.args.disk.now c.adding.disk c.add_frame.new.disk IsShut (i.moments was) (c.add_frame.ensures.any_moment (i.shut was));
      later = grind arith;
    }
