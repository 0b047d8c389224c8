use Rattle.std.proofs.Common.{sym, subst}
use Rattle.query_reach.specs.Seen.{pins_seen}
use Rattle.query_reading.specs.Wanted.{IsOwnBy}
use Rattle.query_reading.proofs.WantedLaws.{other_rows}
use Rattle.query_reading.proofs.reading.own_of.Goals as goal

pub returns-in-Facts : goal.returns-in-Facts
returns-in-Facts c =
    subst (λ e. IsOwnBy e (pins_seen c.args.pins.now) c.own_fact.result) (sym c.in-Facts.is) (c.own_fact.ensures (pins_seen c.args.pins.now) c.demand_on.ensures)

pub returns-in-Resources : goal.returns-in-Resources
returns-in-Resources c =
    subst (λ e. IsOwnBy e (pins_seen c.args.pins.now) c.own_resource.result) (sym c.in-Resources.is)
    (c.own_resource.ensures (pins_seen c.args.pins.now) c.demand_on-in-Resources.ensures c.demand_on-in-Resources-2.ensures)

pub returns-in_default : goal.returns-in_default
returns-in_default c = other_rows c.args.entity (pins_seen c.args.pins.now) c.asked_for.result c.in_default.not-Facts c.in_default.not-Resources
