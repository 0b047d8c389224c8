use Rattle.std.proofs.Common.{◌≡◌, ◌∷◌, map, take}
use Rattle.fleet_rows.specs.text_spec.Json.{string}
use Rattle.fact_paths.specs.Leaves.{step_value}
use Rattle.fact_paths.specs.Steps.{steps_of}
use Rattle.fact_paths.proofs.walk.path_items.Given as goal

abbrev pub invariant-loop-step : goal.invariant-loop-step
invariant-loop-step l = l.items ≡ string l.name ∷ map step_value (steps_of (take l.step-index l.path))
