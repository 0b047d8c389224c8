use Rattle.std.proofs.Common.{drop}
use Rattle.fleet_tables.specs.Groups.{joined, IsRowOf}
use Rattle.fleet_tables.proofs.groups.group_of_row.Given as goal

-- it is a row of the groups that are left
abbrev pub invariant-passing : goal.invariant-passing
invariant-passing l = IsRowOf l.entity (joined l.groups) l.i (joined (drop l.at l.groups)) l.behind
