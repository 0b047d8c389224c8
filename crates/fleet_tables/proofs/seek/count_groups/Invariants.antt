use Rattle.std.proofs.Common.{◌≡◌, ◌+◌, ℤ, drop, Option}
use Rattle.checkpoint_spec.specs.fleet_rows.declared.settings.Ttls.{Ttls}
use Rattle.fleet_tables.specs.Groups.{joined, rows_of}
use Rattle.kept_nodes.specs.Runs.{number}
use Rattle.kept_nodes.specs.Wanted.{has_own, texts_of}
use Rattle.fleet_tables.proofs.seek.count_groups.Given as goal

abbrev pub invariant-walking : goal.invariant-walking
invariant-walking l = (ttls : Ttls) (expiry : Option ℤ) → l.count + number (has_own l.entity (texts_of l.sought)) (rows_of l.entity ttls expiry (joined (drop l.group-index l.groups)))
    ≡ number (has_own l.entity (texts_of l.sought)) (rows_of l.entity ttls expiry (joined l.groups))
