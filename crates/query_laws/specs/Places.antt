-- Places in a JSON value: the number of the element in each array, from the outermost inwards.
use Rattle.std.specs.Prelude.{ℕ, zero, suc, List, [], ◌∷◌, Option, Some, None, is_some, IsTrue}
use Rattle.json_machine.specs.text_spec.Json.{Json, array, Items, no_items, item}

-- the element of this number, counted from 0
abbrev pub element : ℕ → Items → Option Json
element i no_items = None
element zero (item v vs) = Some v
element (suc i) (item v vs) = element i vs

abbrev pub element_of : ℕ → Json → Option Json
element_of i (array vs) = element i vs
element_of i _ = None

-- the value at this place
abbrev pub value_at : List ℕ → Option Json → Option Json
value_at p None = None
value_at [] (Some v) = Some v
value_at (i ∷ p) (Some v) = value_at p (element_of i v)

abbrev pub IsPlaceIn : Json → List ℕ → Type 0
IsPlaceIn v p = IsTrue (is_some (value_at p (Some v)))
