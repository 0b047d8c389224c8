use Rattle.std.proofs.Common.{arith}
use Rattle.std.proofs.lemmas.Int.{ints}
use Rattle.stamp_time.proofs.calendar.nanos_at.Goals as goal

pub returns : goal.returns
returns c = record { value = omega (arith, ints); range = omega (arith, ints) }
