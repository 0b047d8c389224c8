-- References to the members of an object, as the canonical text writes them.
use Rattle.std.specs.Prelude.{ℕ, List, map}
use Rattle.std.specs.Borrow.{Bor}
use Rattle.text_spec.specs.Json as spec
use Rattle.text_spec.specs.Json.{Members, members_of}
use Rattle.text_spec.specs.Compact.{arranged}
use Rattle.json_tree.specs.declared.tree.Json.{Json}
use Rattle.json_tree.specs.Tree.{json_of}

-- the key, and g applied to the value
abbrev pub pair_by : (spec.Json → spec.Json) → Bor (List ℕ × Json) → List ℕ × spec.Json
pair_by g b = (b.now.0, g (json_of b.now.1))

-- the members with their values arranged
abbrev pub placed : List (Bor (List ℕ × Json)) → Members
placed bs = members_of (map (pair_by arranged) bs)
