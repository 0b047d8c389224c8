use Rattle.std.proofs.Common.{◌≡◌, ℤ, length, take, Option}
use Rattle.checkpoint_spec.specs.fleet_rows.declared.settings.Ttls.{Ttls}
use Rattle.fleet_tables.specs.Groups.{joined, rows_of}
use Rattle.fleet_tables.proofs.spans.rows_before.Given as goal

abbrev pub invariant-passing : goal.invariant-passing
invariant-passing l = (ttls : Ttls) (expiry : Option ℤ) → l.before ≡ length (rows_of l.entity ttls expiry (joined (take l.passed l.groups)))
