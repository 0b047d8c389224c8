-- The JSON value of `text_spec` that a `Json` stands for. Contracts already see `Items` and `Members` as lists of values.
use Rattle.std.specs.Prelude.{ℕ, List, map}
use Rattle.text_spec.specs.Json as spec
use Rattle.json_tree.specs.declared.tree.Json.{Json}
use Rattle.json_tree.specs.declared.tree.Json.TheVariants.{Null, Bool, Num, Text, List as Array, Map}

abbrev pub json_of : Json → spec.Json
json_of Null = spec.null
json_of (Bool b) = spec.boolean b
json_of (Num s) = spec.number s
json_of (Text s) = spec.string s
json_of (Array js) = spec.array (spec.items_of js)
json_of (Map ms) = spec.object (spec.members_of ms)

abbrev pub jsons : List Json → List spec.Json
jsons = map json_of

abbrev pub pair : List ℕ × Json → List ℕ × spec.Json
pair p = (p.0, json_of p.1)

abbrev pub pairs : List (List ℕ × Json) → List (List ℕ × spec.Json)
pairs = map pair
