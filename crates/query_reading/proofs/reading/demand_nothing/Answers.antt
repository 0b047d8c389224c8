use Rattle.std.proofs.Common.{◌∙◌, sym}
use Rattle.query_reading.proofs.reading.demand_nothing.Goals as goal

pub returns-in-Some : goal.returns-in-Some
returns-in-Some c = λ h row. sym (c.in-Some.ensures row) ∙ c.asks_for_nothing.ensures h c.args.entity row
