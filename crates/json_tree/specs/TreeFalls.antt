-- A contained value nests less deep than its container.
use Rattle.std.specs.Prelude.{ℕ, ◌≤◌, max, List, [], ◌∷◌}
use Rattle.std.proofs.Common.{arith}
use denote.Param.Weighed.{most}
use Rattle.text_spec.specs.Json.{items_of, members_of, levels, items_levels, members_levels}
use Rattle.json_tree.specs.declared.tree.Json.{Json}
use Rattle.json_tree.specs.declared.tree.Json.TheVariants.{Null, Bool, Num, Text, List as Array, Map}
use Rattle.json_tree.specs.declared.tree.Items.TheDeep.{deep-Json}
use Rattle.json_tree.specs.Tree.{json_of, jsons, pairs}

pub deep_le-levels : (j : Json) → deep-Json j ≤ levels (json_of j)
deep_le-levels Null = omega arith
deep_le-levels (Bool b) = omega arith
deep_le-levels (Num s) = omega arith
deep_le-levels (Text s) = omega arith
deep_le-levels (Array js) = omega arith
deep_le-levels (Map ms) = omega arith

pub items_fall : (js : List Json) → most deep-Json js ≤ items_levels (items_of (jsons js))
items_fall [] = omega arith
items_fall (j ∷ js) = omega (arith, deep_le-levels j, items_fall js)

pub members_fall : (ms : List (List ℕ × Json)) → most (λ m. max 0 (max (deep-Json m.1) 0)) ms ≤ members_levels (members_of (pairs ms))
members_fall [] = omega arith
members_fall (m ∷ ms) = omega (arith, deep_le-levels m.1, members_fall ms)
