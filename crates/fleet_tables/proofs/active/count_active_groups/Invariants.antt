use Rattle.std.proofs.Common.{◌≡◌, ◌+◌, length, drop}
use Rattle.fleet_tables.specs.Active.{active_rows_of}
use Rattle.fleet_tables.specs.Groups.{joined}
use Rattle.fleet_tables.proofs.active.count_active_groups.Given as goal

abbrev pub invariant-walking : goal.invariant-walking
invariant-walking l = l.count + length (active_rows_of l.entity l.ttls l.expiry (joined (drop l.group-index l.groups))) ≡ length (active_rows_of l.entity l.ttls l.expiry (joined l.groups))
