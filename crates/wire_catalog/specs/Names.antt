-- Resources in the order of the payload, and the first that repeats a name.
use Rattle.std.specs.Prelude.{ℕ, suc, List, [], ◌∷◌, ◌++◌, Option, Some, None, Ok, Err, if◌then◌else◌}
use Rattle.std.specs.List.{list_any}
use Rattle.wire_fields.specs.text_spec.Json.{Json}
use Rattle.wire_fields.specs.fleet_rows.declared.catalog.Resource.{Resource}
use Rattle.wire_fields.specs.fleet_rows.declared.refusal.Refusal.{Refusal}
use Rattle.wire_fields.specs.wire_spec.Table.{Checked, resource, has_name_of}

-- a resource before the others, or a refusal that ends the list
abbrev pub front_step : Checked Resource → List Resource × Option Refusal → List Resource × Option Refusal
front_step (Ok r) rest = (r ∷ rest.0, rest.1)
front_step (Err refusal) rest = ([], Some refusal)

-- the resources before the first one whose own fields are refused, and that refusal
abbrev pub front_of : ℕ → List Json → List Resource × Option Refusal
front_of i [] = ([], None)
front_of i (j ∷ js) = front_step (resource i j) (front_of (suc i) js)

-- the index of the first resource that repeats the type and title of an earlier one
abbrev pub again_from : List Resource → ℕ → List Resource → Option ℕ
again_from before i [] = None
again_from before i (r ∷ rs) = if list_any (has_name_of r) before then Some i else again_from (before ++ r ∷ []) (suc i) rs
