use Rattle.std.proofs.Common.{◌-◌, ◌<◌, ◌≤◌, length, take, drop}
use Rattle.fleet_tables.specs.Groups.{joined, AreBelow, AreAbove}
use Rattle.fleet_tables.proofs.groups.group_of.Given as goal

abbrev pub invariant-halves : goal.invariant-halves
invariant-halves l = record {
  ordered : l.low < l.high;
  within : l.high ≤ length l.groups;
  below : AreBelow l.certname (joined (take l.low l.groups));
  above : AreAbove l.certname (joined (drop l.high l.groups));
}

abbrev pub decreases-halves : goal.decreases-halves
decreases-halves l = l.high - l.low
