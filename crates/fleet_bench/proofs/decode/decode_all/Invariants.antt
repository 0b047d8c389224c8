use Rattle.std.proofs.Common.{◌-◌}
use Rattle.fleet_bench.proofs.decode.decode_all.Given as goal

abbrev pub decreases-decoding : goal.decreases-decoding
decreases-decoding l = l.times - l.done
