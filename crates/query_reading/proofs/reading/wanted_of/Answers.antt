use Rattle.query_reach.specs.Seen.{pins_seen}
use Rattle.query_reading.proofs.reading.wanted_of.Goals as goal

pub returns : goal.returns
returns c = c.with_certname.ensures c.args.entity (pins_seen c.args.pins.now) c.demand_on.ensures c.own_of.ensures
