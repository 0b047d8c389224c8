use Rattle.std.proofs.Common.{arith, ◌≡◌, ℕ, ap, pos, to_z, of_z, w16, unsigned_abs}
use Rattle.std.proofs.lemmas.Int.{ints}
use Rattle.jiff_core.specs.DateTime.{civil_nanos}
use Rattle.stamp_time.proofs.ClockLemmas.{shown, shown_year}
use Rattle.stamp_time.proofs.clock.shown_at.Goals as goal

pub overflow_cast-result : goal.overflow_cast-result
overflow_cast-result c =
    let clock = c.to_plain-clock.result in
    let shows : civil_nanos clock ≡ c.args.m = omega (arith, ints, ap civil_nanos c.to_plain-clock.ensures, c.to_datetime.ensures, c.in-Ok.ensures.value, c.as_nanosecond.ensures) in
    let from = shown_year clock c.args.m c.requires shows in
    omega (arith, ints, from)

pub returns : goal.returns
returns c =
    let clock = c.to_plain-clock.result in
    let shows : civil_nanos clock ≡ c.args.m = omega (arith, ints, ap civil_nanos c.to_plain-clock.ensures, c.to_datetime.ensures, c.in-Ok.ensures.value, c.as_nanosecond.ensures) in
    let from = shown_year clock c.args.m c.requires shows in
    let year : ℕ = unsigned_abs (to_z w16 (of_z w16 clock.date.year)) in
    let same : pos year ≡ clock.date.year = omega (arith, ints, from) in
    shown clock c.args.m year shows same
