use Rattle.std.proofs.Common.{arith, ◌<◌, ◌^◌, ◌*◌, ◌≡◌, length, sym}
use Rattle.text_spec.proofs.of_plain_laws.Digits.{under_power}
use Rattle.stamp_time.proofs.DigitLemmas.{scaled_under}
use Rattle.stamp_time.proofs.fraction.nanos_of.Goals as goal

pub overflow_mul-value : goal.overflow_mul-value
overflow_mul-value c =
    let small : c.loop-digit.value < 10 ^ 8 = under_power c.loop-digit.value c.loop-digit.digit-index 8 c.loop-digit.invariant.bound (omega arith) in
    omega (arith, small)

pub overflow_add-value : goal.overflow_add-value
overflow_add-value c =
    let small : c.loop-digit.value < 10 ^ 8 = under_power c.loop-digit.value c.loop-digit.digit-index 8 c.loop-digit.invariant.bound (omega arith) in
    let byte = c.type_inv.digits c.loop-digit.digit-index in
    omega (arith, small, byte)

pub returns-clause-bound : goal.returns-clause-bound
returns-clause-bound c =
    let all : c.loop-digit.digit-index ≡ length c.args.digits.now = omega arith in
    let bound : c.loop-digit.value < 10 ^ length c.args.digits.now = rw (sym all) c.loop-digit.invariant.bound in
    rw c.pow.ensures (scaled_under c.loop-digit.value (length c.args.digits.now) 9 bound c.requires.len)

pub overflow_mul-result : goal.overflow_mul-result
overflow_mul-result c =
    let all : c.loop-digit.digit-index ≡ length c.args.digits.now = omega arith in
    let bound : c.loop-digit.value < 10 ^ length c.args.digits.now = rw (sym all) c.loop-digit.invariant.bound in
    let small : c.loop-digit.value * c.pow.result < 10 ^ 9 = rw c.pow.ensures (scaled_under c.loop-digit.value (length c.args.digits.now) 9 bound c.requires.len) in
    omega (arith, small)
