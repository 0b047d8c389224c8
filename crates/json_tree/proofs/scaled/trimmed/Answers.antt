use Rattle.std.proofs.Common.{arith}
use Rattle.json_tree.proofs.ScaledLaws.{zero_more, last_odd}
use Rattle.json_tree.proofs.scaled.trimmed.Goals as goal

pub loop-end-preserved : goal.loop-end-preserved
loop-end-preserved c = record {
  within = omega (arith, c.loop-end.invariant.within);
  zeros = λ n. zero_more n c.args.digits.now c.loop-end.end c.loop-end-test.true c.loop-end.invariant.within c.if-digits-end-eq48.true (c.loop-end.invariant.zeros n);
}

pub returns-else-digits-end-eq48-clause-last : goal.returns-else-digits-end-eq48-clause-last
returns-else-digits-end-eq48-clause-last c = λ n some. last_odd n c.args.digits.now c.loop-end.end some c.loop-end.invariant.within c.requires c.if-digits-end-eq48.false
