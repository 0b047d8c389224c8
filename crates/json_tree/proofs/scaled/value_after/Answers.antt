use Rattle.std.proofs.Common.{arith, get_or}
use Rattle.json_tree.proofs.ScaledLaws.{after-ge_next, digits-at, digit_minus}
use Rattle.json_tree.proofs.scaled.value_after.Goals as goal

pub returns-then-value-ge-LIMIT : goal.returns-then-value-ge-LIMIT
returns-then-value-ge-LIMIT c =
    let digits = c.args.digits.now in
    let at = c.loop-digit.digit-index in
    let low = digits-at digits at c.loop-digit-test.true c.requires.digits in
    let next = after-ge_next c.loop-digit.value digits at c.loop-digit-test.true in
    omega (arith, next, digit_minus (get_or digits at 0) low, c.loop-digit.invariant.value, c.if-value-ge-LIMIT.true)
