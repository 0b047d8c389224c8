use Rattle.std.proofs.Common.{arith}
use Rattle.std.proofs.lemmas.Int.{ints}
use Rattle.stamp_time.proofs.RangeLaws.{has_stamp, stamp_in_range}
use Rattle.stamp_time.proofs.moment.Moment.has_stamp.Goals as goal

pub returns-clause-named : goal.returns-clause-named
returns-clause-named c =
    let range = c.is_in_range.ensures in (
      λ yes. has_stamp c.args.self (omega (arith, ints, range.0 yes)),
      λ named. range.1 (omega (arith, ints, stamp_in_range named.0 c.args.self named.1)),
    )
