use Rattle.std.proofs.Common.{arith, ◌<◌, ◌^◌}
use Rattle.text_spec.proofs.of_plain_laws.Digits.{under_power}
use Rattle.spool_text.proofs.first_line.value_of.Goals as goal

pub overflow_mul-value : goal.overflow_mul-value
overflow_mul-value c =
    let small : c.loop-digit.value < 10 ^ 9 = under_power c.loop-digit.value c.loop-digit.digit-index 9 c.loop-digit.invariant.bound (omega arith) in
    omega (arith, small)

pub overflow_add-value : goal.overflow_add-value
overflow_add-value c =
    let small : c.loop-digit.value < 10 ^ 9 = under_power c.loop-digit.value c.loop-digit.digit-index 9 c.loop-digit.invariant.bound (omega arith) in
    let byte = c.type_inv.digits c.loop-digit.digit-index in
    omega (arith, small, byte)

pub returns-clause-bound : goal.returns-clause-bound
returns-clause-bound c =
    under_power c.loop-digit.value c.loop-digit.digit-index 10 c.loop-digit.invariant.bound (omega arith)
