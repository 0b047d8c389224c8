use Rattle.std.proofs.Common.{◌-◌}
use Rattle.fleet_bench.proofs.json.canonical_all.Given as goal

abbrev pub decreases-writing : goal.decreases-writing
decreases-writing l = l.times - l.done
