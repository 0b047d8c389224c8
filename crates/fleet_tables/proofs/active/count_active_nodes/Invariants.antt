use Rattle.std.proofs.Common.{◌≡◌, ◌+◌, length, drop}
use Rattle.fleet_tables.specs.Active.{active_rows_of}
use Rattle.kept_nodes.specs.Places.{seen_in}
use Rattle.fleet_tables.proofs.active.count_active_nodes.Given as goal

abbrev pub invariant-walking : goal.invariant-walking
invariant-walking l = l.count + length (active_rows_of l.entity l.ttls l.expiry (seen_in (drop l.node-index l.nodes))) ≡ length (active_rows_of l.entity l.ttls l.expiry (seen_in l.nodes))
