use Rattle.std.proofs.Common.{◌≡◌, ◌++◌, take, drop, map}
use Rattle.kept_nodes.specs.Places.{left_by_purge}
use Rattle.fleet_tables.proofs.groups.purge_each.Given as goal

abbrev pub invariant-sweeping : goal.invariant-sweeping
invariant-sweeping l =
    l.group-items ≡ map (left_by_purge l.ttls l.m l.expiry) (take l.group-index l.initial.group-items) ++ drop l.group-index l.initial.group-items
