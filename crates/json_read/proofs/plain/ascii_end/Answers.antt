use Rattle.std.proofs.Common.{◌∙◌, ◌++◌, ◌+◌, ◌≤◌, length, arith, refl}
use Rattle.std.specs.Prelude.{slice_range, slice_index}
use Rattle.json_machine.specs.Machine.{inside}
use Rattle.json_read.proofs.Steps.{plain_more, plain_run, ascii_step}
use Rattle.json_read.proofs.plain.ascii_end.Goals as goal

pub ascii-preserved : goal.ascii-preserved
ascii-preserved c = record {
  past = omega (arith, c.ascii.invariant.past);
  within = omega (arith, c.ascii-test.true);
  same = λ s. c.ascii.invariant.same s ∙ plain_more c.args.bytes.now c.args.start c.ascii.at inside inside s c.ascii.invariant.past c.ascii-test.true (ascii_step (slice_index c.args.bytes.now c.ascii.at) (s ++ slice_range c.args.bytes.now c.args.start c.ascii.at) (c.if-is_ascii_plain.ensures.0 refl));
}

pub chunks-preserved : goal.chunks-preserved
chunks-preserved c =
    let bytes = c.args.bytes.now in
    let at = c.chunks.at in
    let plain = c.plain_of_16-plain.result in
    let room : at + plain ≤ length bytes = omega (arith, c.chunks.invariant.within, c.chunks-test.true, c.plain_of_16-plain.ensures.bound) in
    record {
      past = omega (arith, c.chunks.invariant.past);
      within = room;
      same = λ s. c.chunks.invariant.same s ∙ plain_run bytes c.args.start at (at + plain) plain s refl c.chunks.invariant.past room c.plain_of_16-plain.ensures.plain;
    }

pub returns-then-plain-lt16-clause-value : goal.returns-then-plain-lt16-clause-value
returns-then-plain-lt16-clause-value c =
    let bytes = c.args.bytes.now in
    let at = c.chunks.at in
    let plain = c.plain_of_16-plain.result in
    let room : at + plain ≤ length bytes = omega (arith, c.chunks.invariant.within, c.chunks-test.true, c.plain_of_16-plain.ensures.bound) in
    λ s. c.chunks.invariant.same s ∙ plain_run bytes c.args.start at (at + plain) plain s refl c.chunks.invariant.past room c.plain_of_16-plain.ensures.plain

pub returns-then-plain-lt16-clause-other : goal.returns-then-plain-lt16-clause-other
returns-then-plain-lt16-clause-other c = λ lt. c.plain_of_16-plain.ensures.other c.if-plain-lt16.true
