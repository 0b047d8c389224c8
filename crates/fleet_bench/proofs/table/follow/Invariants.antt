use Rattle.std.proofs.Common.{◌^◌, ◌≤◌, ◌-◌}
use Rattle.spool_text.specs.Next.{place}
use Rattle.fleet_bench.proofs.table.follow.Given as goal

abbrev pub invariant-items : goal.invariant-items
invariant-items g l = place l.spool ≤ 2 ^ 62

abbrev pub decreases-items : goal.decreases-items
decreases-items g l = 2 ^ 62 - place l.spool
