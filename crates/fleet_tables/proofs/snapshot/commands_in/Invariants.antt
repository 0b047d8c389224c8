use Rattle.std.proofs.Common.{◌≡◌, ◌++◌, drop}
use Rattle.std.specs.List.{flat_map}
use Rattle.checkpoint_spec.specs.Lists.{commands_of}
use Rattle.fleet_tables.specs.Groups.{joined}
use Rattle.fleet_tables.proofs.snapshot.commands_in.Given as goal

abbrev pub invariant-listing : goal.invariant-listing
invariant-listing l = l.commands ++ flat_map commands_of (joined (drop l.group-index l.groups)) ≡ flat_map commands_of (joined l.groups)
