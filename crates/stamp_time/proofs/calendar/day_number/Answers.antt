use Rattle.std.proofs.Common.{arith, ◌≡◌, ◌≤ℤ◌, pos}
use Rattle.std.proofs.lemmas.Int.{ints}
use Rattle.jiff_core.specs.Date.{epoch_day}
use Rattle.stamp_time.proofs.DayLemmas.{stamp_day}
use Rattle.stamp_time.proofs.calendar.day_number.Goals as goal

pub returns-in-Ok-clause-range : goal.returns-in-Ok-clause-range
returns-in-Ok-clause-range c =
    let d = c.in-Ok.date in
    let low : pos 1 ≤ℤ d.year = omega (arith, ints, c.in-Ok.ensures.value) in
    let high : d.year ≤ℤ pos 9900 = omega (arith, ints, c.in-Ok.ensures.value) in
    let day = stamp_day d.year d.month d.day (d.year_in, d.month_in, d.day_in) low high in
    let is : c.to_unix_epoch_day.result ≡ epoch_day d = rw c.to_plain.ensures at c.to_unix_epoch_day.ensures.value in
    omega (arith, ints, day, is, c.to_unix_epoch_day.ensures.bound)
