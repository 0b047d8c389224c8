use Rattle.std.proofs.Common.{take}
use Rattle.query_reach.specs.Demands.{IsDemand}
use Rattle.query_reach.specs.Reach.{demanded}
use Rattle.query_reach.specs.Seen.{pins_seen}
use Rattle.query_reach.proofs.demands.demand_on.Given as goal

abbrev pub invariant-walking : goal.invariant-walking
invariant-walking l = IsDemand (demanded l.column (pins_seen (take l.pin-index l.pins))) l.demand
