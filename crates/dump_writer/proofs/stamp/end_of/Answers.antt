use Rattle.std.proofs.Common.{◌≡◌, ◌-◌, ◌==◌, ◌<◌, ◌≤◌, length, false, arith}
use Rattle.std.specs.Prelude.{slice_index}
use Rattle.std.proofs.lemmas.Bool.Decides.{nat_tests}
use Rattle.dump_writer.proofs.Fractions.{one_fewer, ends_at}
use Rattle.dump_writer.proofs.stamp.end_of.Goals as goal

pub zeros-preserved : goal.zeros-preserved
zeros-preserved c =
    let ds = c.args.digits.now in
    let end = c.zeros.end in
    let some : 0 < end = omega (arith, c.zeros-test.true) in
    let is : slice_index ds (end - 1) ≡ 48 = omega (arith, c.if-digits-end-eq48.true) in
    let within : end - 1 ≤ length ds = omega (arith, c.zeros.invariant.within) in
    record { within = within; same = one_fewer ds end some c.zeros.invariant.within is c.zeros.invariant.same }

pub returns-else-digits-end-eq48-clause-left : goal.returns-else-digits-end-eq48-clause-left
returns-else-digits-end-eq48-clause-left c =
    let ds = c.args.digits.now in
    let end = c.zeros.end in
    let some : 0 < end = omega (arith, c.zeros-test.true) in
    let is : (slice_index ds (end - 1) == 48) ≡ false = grind (arith, nat_tests, c.if-digits-end-eq48.false) in
    ends_at ds end some c.zeros.invariant.within is c.zeros.invariant.same
