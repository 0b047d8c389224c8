use Rattle.std.proofs.Common.{◌-◌, length, sym, arith}
use Rattle.query_reading.proofs.UnionLaws.{below_last}
use Rattle.query_reading.proofs.reading.is_below.Goals as goal

pub returns-in-len1-up : goal.returns-in-len1-up
returns-in-len1-up c = sym (below_last c.args.places.now (length c.args.places.now - 1) c.args.bound 0 (omega (arith, c.in-len1-up.len_at_least)))
