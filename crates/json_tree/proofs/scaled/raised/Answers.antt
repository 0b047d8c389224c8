use Rattle.std.proofs.Common.{arith, ◌∙◌}
use Rattle.json_tree.proofs.ScaledLaws.{ten_less, too_large}
use Rattle.json_tree.proofs.scaled.raised.Goals as goal

pub returns-then-value-ge-LIMIT-clause-size : goal.returns-then-value-ge-LIMIT-clause-size
returns-then-value-ge-LIMIT-clause-size c = too_large c.loop-left.value c.loop-left.left _ c.loop-left-test.true c.if-value-ge-LIMIT.true c.loop-left.invariant.product

pub loop-left-preserved : goal.loop-left-preserved
loop-left-preserved c = record {
  product = ten_less c.loop-left.value c.loop-left.left c.loop-left-test.true ∙ c.loop-left.invariant.product;
  some = omega (arith, c.loop-left.invariant.some);
  small = c.if-value-ge-LIMIT.false;
}
