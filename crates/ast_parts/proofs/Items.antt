-- The items of a list.
use Rattle.std.proofs.Common.{◌≡◌, ℕ, ◌<◌, ◌≤◌, List, length, get_or, sym, subst}
use Rattle.json_tree.specs.text_spec.Json.{items_of, levels, items_levels}
use Rattle.json_tree.specs.declared.tree.Json.{Json}
use Rattle.json_tree.specs.Tree.{json_of, jsons}
use Rattle.json_tree.proofs.LevelLaws.{levels-item}

-- an item nests no deeper than the list
pub item-within : (js : List Json) (i : ℕ) (j : Json) → j ≡ get_or js i j → i < length js → levels (json_of j) ≤ items_levels (items_of (jsons js))
item-within js i j e h = subst (λ x. levels (json_of x) ≤ items_levels (items_of (jsons js))) (sym e) (levels-item js i j h)
