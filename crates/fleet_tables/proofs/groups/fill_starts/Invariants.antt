use Rattle.std.proofs.Common.{◌≡◌, ◌≤◌, length}
use Rattle.fleet_tables.specs.Groups.{AreStarts}
use Rattle.fleet_tables.proofs.groups.fill_starts.Given as goal

abbrev pub invariant-filling : goal.invariant-filling
invariant-filling l = record {
  starts : AreStarts l.starts.items l.groups;
  place : length l.starts.items ≡ l.at;
}
