-- The members of an object in key order, found one after the other in an unsorted list.
use Rattle.std.specs.Prelude.{ℕ, List, [], ◌∷◌, Bool, true, ◌&&◌, if◌then◌else◌, Option, Some, None}
use Rattle.std.specs.Ordering.{is_lt}
use Rattle.text_spec.specs.Json.{Json}
use Rattle.text_spec.specs.Compact.{text_cmp, arranged}

abbrev pub arranged_pair : List ℕ × Json → List ℕ × Json
arranged_pair m = (m.0, arranged m.1)

-- each key is greater than the key before it
abbrev pub rises : List (List ℕ × Json) → Bool
rises [] = true
rises (m ∷ []) = true
rises (m ∷ n ∷ ms) = is_lt (text_cmp m.0 n.0) && rises (n ∷ ms)

-- the key is greater than the last one, if there is a last one
abbrev pub is_behind : Option (List ℕ) → List ℕ → Bool
is_behind None k = true
is_behind (Some last) k = is_lt (text_cmp last k)

-- the key is less than the member's key, if there is a member
abbrev pub is_before : List ℕ → Option (List ℕ × Json) → Bool
is_before k None = true
is_before k (Some m) = is_lt (text_cmp k m.0)

-- of `next` and these members, the one with the least key after the last one
abbrev pub next_from : Option (List ℕ) → Option (List ℕ × Json) → List (List ℕ × Json) → Option (List ℕ × Json)
next_from last next [] = next
next_from last next (m ∷ ms) = next_from last (if is_behind last m.0 && is_before m.0 next then Some m else next) ms

-- the members whose keys are after the last key
abbrev pub behind : Option (List ℕ) → List (List ℕ × Json) → List (List ℕ × Json)
behind last [] = []
behind last (m ∷ ms) = if is_behind last m.0 then m ∷ behind last ms else behind last ms
