use Rattle.std.proofs.Common.{◌≡◌, [], drop, reverse}
use Rattle.query_plan.specs.Made.{steps_of}
use Rattle.query_reading.specs.Joins.{join_run}
use Rattle.query_reading.proofs.joins.join_of.Given as goal

abbrev pub invariant-walking : goal.invariant-walking
invariant-walking l = join_run (steps_of (drop l.step-index l.steps)) (reverse l.stack.items) ≡ join_run (steps_of l.steps) []
