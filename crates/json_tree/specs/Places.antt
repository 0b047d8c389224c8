-- The index of a key among an object's members.
use Rattle.std.specs.Prelude.{ℕ, suc, List, [], ◌∷◌, Option, Some, None, option_map, if◌then◌else◌}
use Rattle.std.specs.Str.{bytes_eq}
use Rattle.text_spec.specs.Json.{Json}

-- the index of the first member with this key
abbrev pub index_of : List ℕ → List (List ℕ × Json) → Option ℕ
index_of k [] = None
index_of k (m ∷ ms) = if bytes_eq k m.0 then Some 0 else option_map suc (index_of k ms)
