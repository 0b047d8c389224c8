-- The members of an object, sorted by key.
use Rattle.std.specs.Prelude.{ℕ, List, [], ◌∷◌}
use Rattle.text_spec.specs.Json.{Json, Members, no_members}
use Rattle.text_spec.specs.Compact.{insert_member}

-- inserts each member by the bytes of its key; values stay as they are
abbrev pub in_key_order : List (List ℕ × Json) → Members
in_key_order [] = no_members
in_key_order (m ∷ ms) = insert_member m.0 m.1 (in_key_order ms)
