use Rattle.std.proofs.Common.{◌≡◌, ◌++◌, map, drop}
use Rattle.checkpoint_spec.specs.Lists.{mark_of}
use Rattle.fleet_tables.specs.Groups.{joined}
use Rattle.fleet_tables.proofs.snapshot.marks_of.Given as goal

abbrev pub invariant-listing : goal.invariant-listing
invariant-listing l = l.marks ++ map mark_of (joined (drop l.group-index l.groups)) ≡ map mark_of (joined l.groups)
