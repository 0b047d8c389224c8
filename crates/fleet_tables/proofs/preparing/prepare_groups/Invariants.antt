use Rattle.std.proofs.Common.{◌≡◌}
use Rattle.fleet_tables.proofs.preparing.prepare_groups.Given as goal

abbrev pub invariant-preparing : goal.invariant-preparing
invariant-preparing l = l.groups.items ≡ l.fn.groups.items
