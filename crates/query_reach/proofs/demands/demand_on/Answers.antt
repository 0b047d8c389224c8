use Rattle.std.proofs.Common.{arith, subst}
use Rattle.std.proofs.lemmas.List.{take_all}
use Rattle.query_reach.specs.Demands.{IsDemand}
use Rattle.query_reach.specs.Reach.{demanded}
use Rattle.query_reach.specs.Seen.{pins_seen}
use Rattle.query_reach.proofs.DemandLaws.{pin_more}
use Rattle.query_reach.proofs.demands.demand_on.Goals as goal

pub walking-preserved : goal.walking-preserved
walking-preserved c =
    subst (λ texts. IsDemand texts c.with_pin-demand.result) (pin_more c.args.column.now c.args.pins.now c.walking.pin-index c.pin-item.result c.walking-test.true c.pin-item.is)
    (c.with_pin-demand.ensures _ c.walking.invariant)

pub returns : goal.returns
returns c =
    subst (λ pins. IsDemand (demanded c.args.column.now (pins_seen pins)) c.walking.demand) (take_all c.walking.pin-index c.args.pins.now (omega arith)) c.walking.invariant
