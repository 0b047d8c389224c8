-- A map from each key to its index in a list of members.
use Rattle.std.specs.Prelude.{◌≡◌, ℕ, List}
use Rattle.std.specs.BTreeMap.{BTreeMap, get_by_text}
use Rattle.std.specs.declared.string.String.{String}
use Rattle.std.specs.declared.alloc.Global.{Global}
use Rattle.text_spec.specs.Json.{Json}
use Rattle.json_tree.specs.Places.{index_of}

abbrev pub IsIndex : BTreeMap (String Global) ℕ → List (List ℕ × Json) → Type 0
IsIndex places ms = (q : List ℕ) → get_by_text places q ≡ index_of q ms
