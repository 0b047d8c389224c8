-- The law of repeated keys in an object's text.
use Rattle.std.specs.Prelude.{◌≡◌, ℕ, List, [], ◌∷◌, ◌++◌, map, reverse, if◌then◌else◌}
use Rattle.std.specs.List.{list_any}
use Rattle.std.specs.Str.{bytes_eq}
use Rattle.history_spec.specs.text_spec.Json.{find_member, settled}
use Rattle.history_spec.specs.wire_spec.Table.{Pairs}

-- appends a key, unless it is in the list already
abbrev pub with_key : List ℕ → List (List ℕ) → List (List ℕ)
with_key k keys = if list_any (bytes_eq k) keys then keys else keys ++ k ∷ []

-- the distinct keys, each at its first position
abbrev pub first_keys : List (List ℕ) → List (List ℕ) → List (List ℕ)
first_keys keys [] = keys
first_keys keys (k ∷ ks) = first_keys (with_key k keys) ks

-- the last value of a key counts, at the first position of that key
abbrev pub LastValuesStandAtFirstPlaces : Type 0
LastValuesStandAtFirstPlaces =
    (ms : Pairs)
    → ((k : List ℕ) → find_member k (settled [] ms) ≡ find_member k (reverse ms))
    × (map (λ m. m.0) (settled [] ms) ≡ first_keys [] (map (λ m. m.0) ms))
