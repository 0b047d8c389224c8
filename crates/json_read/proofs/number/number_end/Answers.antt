use Rattle.std.proofs.Common.{◌∙◌, sym, arith}
use Rattle.json_read.specs.Numbers.{state_of}
use Rattle.json_read.proofs.Steps.{number_more}
use Rattle.json_read.proofs.number.number_end.Goals as goal

pub digits-preserved : goal.digits-preserved
digits-preserved c =
    let on = number_more c.args.bytes.now c.args.start c.digits.at (state_of c.digits.state) (state_of c.in-Some.next) (omega (arith, c.digits.invariant.past)) c.digits-test.true (sym c.in-Some.ensures.value) in
    record { past = omega (arith, c.digits.invariant.past); within = omega (arith, c.digits-test.true); begun = c.in-Some.ensures.begun; same = sym on ∙ c.digits.invariant.same }
