use Rattle.std.proofs.Common.{◌≡◌}
use Rattle.fleet_tables.proofs.tables.Tables.prepare_all.Given as goal

abbrev pub invariant-preparing : goal.invariant-preparing
invariant-preparing l = l.self ≡ l.fn.self
