use Rattle.std.proofs.Common.{◌∙◌, ap}
use Rattle.std.specs.Option.{option_and_then}
use Rattle.fact_paths.specs.Leaves.{value_at}
use Rattle.fact_paths.specs.Steps.{along}
use Rattle.fact_paths.proofs.names.member_along.Goals as goal

pub returns-in-Some : goal.returns-in-Some
returns-in-Some c = c.value_along.ensures ∙ ap (option_and_then (value_at (along c.args.rest.now))) c.in-Some.ensures

pub returns-in-None : goal.returns-in-None
returns-in-None c = ap (option_and_then (value_at (along c.args.rest.now))) c.in-None.ensures
