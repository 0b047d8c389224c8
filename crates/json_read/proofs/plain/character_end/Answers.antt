use Rattle.std.proofs.Common.{◌∙◌, ◌++◌, arith}
use Rattle.std.specs.Prelude.{slice_range}
use Rattle.json_read.specs.Strings.{plain_of}
use Rattle.json_read.proofs.Steps.{plain_more}
use Rattle.json_read.proofs.plain.character_end.Goals as goal

pub tails-preserved : goal.tails-preserved
tails-preserved c = record {
  past = omega (arith, c.tails.invariant.past);
  within = omega (arith, c.tails-test.true);
  same = λ s. c.tails.invariant.same s ∙ plain_more c.args.bytes.now c.args.start c.tails.at (plain_of c.tails.state) (plain_of c.in-Some-step.next) s (omega (arith, c.tails.invariant.past)) c.tails-test.true (c.in-Some-step.ensures (s ++ slice_range c.args.bytes.now c.args.start c.tails.at));
}
