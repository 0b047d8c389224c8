use Rattle.std.proofs.Common.{◌-◌}
use Rattle.fleet_bench.proofs.json.read_all.Given as goal

abbrev pub decreases-reading : goal.decreases-reading
decreases-reading l = l.times - l.done
