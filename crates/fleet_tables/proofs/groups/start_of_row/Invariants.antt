use Rattle.std.proofs.Common.{◌-◌, ◌≤◌, length}
use Rattle.fleet_tables.specs.Groups.{AreBefore, AreStarts}
use Rattle.fleet_tables.proofs.JoinedNodes.{Groups}
use Rattle.fleet_tables.proofs.groups.start_of_row.Given as goal

abbrev pub invariant-halves : goal.invariant-halves
invariant-halves l = record {
  ordered : l.low ≤ l.high;
  within : l.high ≤ length l.starts;
  few : l.before ≤ l.i;
  before : (groups : Groups) → AreStarts l.starts groups → AreBefore l.entity groups l.low l.before;
}

abbrev pub decreases-halves : goal.decreases-halves
decreases-halves l = l.high - l.low
