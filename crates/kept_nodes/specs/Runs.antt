-- How many facts or resources of a node stand before the ones that are sought.
use Rattle.std.specs.Prelude.{ℕ, List, Bool, true, false, if◌then◌else◌, filter, length, Option, Some, None}
use Rattle.std.specs.Ordering.{ordering_then, is_lt, is_le}
use Rattle.std.specs.declared.cmp.Ordering.{Ordering}
use Rattle.checkpoint_spec.specs.fleet_rows.declared.catalog.Resource.{Resource}
use Rattle.checkpoint_spec.specs.text_spec.Compact.{text_cmp}
use Rattle.checkpoint_spec.specs.text_spec.Json.{Json}

abbrev pub number : {A : Type 0} → (A → Bool) → List A → ℕ
number test xs = length (filter test xs)

-- one, if it is counted
abbrev pub as_one : Bool → ℕ
as_one true = 1
as_one false = 0

-- what is below the sought, or with `past` also what is equal to it
abbrev pub is_before : Bool → Ordering → Bool
is_before past rank = if past then is_le rank else is_lt rank

-- a fact, compared with a name
abbrev pub name_rank : List ℕ → List ℕ × Json → Ordering
name_rank name fact = text_cmp fact.0 name

-- a resource, compared with a type, and with a title if one is sought
abbrev pub resource_rank : List ℕ → Option (List ℕ) → Resource → Ordering
resource_rank rtype None resource = text_cmp resource.rtype rtype
resource_rank rtype (Some title) resource = ordering_then (text_cmp resource.rtype rtype) (text_cmp resource.title title)
