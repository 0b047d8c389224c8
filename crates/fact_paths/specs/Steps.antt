-- The steps that the code holds by reference, and what `dotted` finds.
use Rattle.std.specs.Prelude.{ℕ, List, [], ◌∷◌, map, Option, None}
use Rattle.std.specs.Borrow.{Bor}
use Rattle.fleet_rows.specs.text_spec.Json.{Json, object, members_of}
use Rattle.fact_paths.specs.declared.step.StepRef.{StepRef}
use Rattle.fact_paths.specs.declared.step.StepRef.TheVariants as held
use Rattle.fact_paths.specs.Leaves.{Step, key, index, value_at}

abbrev pub step_of : StepRef → Step
step_of (held.Key k) = key k.now
step_of (held.Index n) = index n

abbrev pub steps_of : List StepRef → List Step
steps_of = map step_of

-- the steps along members of these names
abbrev pub along : List (Bor (List ℕ)) → List Step
along = map (λ name. key name.now)

-- the value at the end of at least one name
abbrev pub dotted : List (List ℕ × Json) → List (Bor (List ℕ)) → Option Json
dotted facts [] = None
dotted facts (name ∷ names) = value_at (along (name ∷ names)) (object (members_of facts))
