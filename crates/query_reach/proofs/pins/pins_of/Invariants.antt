use Rattle.std.proofs.Common.{◌≡◌, [], drop, reverse}
use Rattle.query_plan.specs.Made.{steps_of}
use Rattle.query_reach.specs.Pins.{pin_run}
use Rattle.query_reach.proofs.pins.pins_of.Given as goal

abbrev pub invariant-walking : goal.invariant-walking
invariant-walking l = pin_run (steps_of (drop l.step-index l.steps)) (reverse l.stack.items) ≡ pin_run (steps_of l.steps) []
