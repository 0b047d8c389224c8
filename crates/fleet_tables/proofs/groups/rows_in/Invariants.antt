use Rattle.std.proofs.Common.{take}
use Rattle.fleet_tables.specs.Groups.{joined, AreCountsOf}
use Rattle.kept_nodes.specs.Counted.{IsWithin}
use Rattle.fleet_tables.proofs.groups.rows_in.Given as goal

abbrev pub invariant-adding : goal.invariant-adding
invariant-adding l = record {
  rows : AreCountsOf l.total (joined (take l.group-index l.groups));
  within : IsWithin l.total;
}
