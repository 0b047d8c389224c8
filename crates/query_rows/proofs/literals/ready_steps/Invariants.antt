use Rattle.std.proofs.Common.{◌≡◌, ◌++◌, drop}
use Rattle.query_plan.specs.Made.{steps_of}
use Rattle.query_rows.proofs.literals.ready_steps.Given as goal

abbrev pub invariant-loop-step : goal.invariant-loop-step
invariant-loop-step l = l.ready.items ++ steps_of (drop l.step-index l.steps) ≡ steps_of l.steps
