-- The leaves of a JSON value: the places where it goes no deeper, each with the path that leads there.
use Rattle.std.specs.Prelude.{ℕ, zero, suc, List, [], ◌∷◌, ◌++◌, Bool, true, false, Option, Some, None, map, decimal}
use Rattle.std.specs.declared.cmp.Ordering.{Ordering}
use Rattle.std.specs.declared.cmp.Ordering.TheVariants.{Less, Greater}
use Rattle.std.specs.Ordering.{nat_cmp}
use Rattle.std.specs.Cmp.Lexicographic.{slice_cmp}
use Rattle.std.specs.Option.{option_and_then}
use Rattle.fleet_rows.specs.text_spec.Compact.{text_cmp, arranged}
use Rattle.fleet_rows.specs.text_spec.Json.{Json, number, string, array, object, Items, no_items, item, items_of, Members, no_members, member, members_list, find_member}

-- ---- paths

-- one step into a value: to the member of an object with this key, or to the item of an array with this index, from 0
pub data Step : Type 0 where
  key : List ℕ → Step
  index : ℕ → Step

abbrev pub item_at : ℕ → Items → Option Json
item_at n no_items = None
item_at zero (item j js) = Some j
item_at (suc n) (item j js) = item_at n js

-- the value one step further
abbrev pub value_in : Step → Json → Option Json
value_in (key k) (object ms) = find_member k (members_list ms)
value_in (index n) (array js) = item_at n js
value_in _ _ = None

-- the value to which a path leads
abbrev pub value_at : List Step → Json → Option Json
value_at [] j = Some j
value_at (s ∷ path) j = option_and_then (value_at path) (value_in s j)

-- a step as a JSON value: a key is a text, an index a number
abbrev pub step_value : Step → Json
step_value (key k) = string k
step_value (index n) = number (decimal n)

-- the array of a path within the value of this name
abbrev pub path_value : List ℕ → List Step → Json
path_value name path = array (items_of (string name ∷ map step_value path))

-- indices by their numbers come before keys by their bytes; paths compare step by step, a prefix first
abbrev pub step_cmp : Step → Step → Ordering
step_cmp (index m) (index n) = nat_cmp m n
step_cmp (index m) (key l) = Less
step_cmp (key k) (index n) = Greater
step_cmp (key k) (key l) = text_cmp k l

abbrev pub path_cmp : List Step → List Step → Ordering
path_cmp = slice_cmp step_cmp

-- ---- leaves

-- the value goes no deeper: it is neither an array nor an object, or an empty one
abbrev pub is_leaf : Json → Bool
is_leaf (array (item j js)) = false
is_leaf (object (member k j ms)) = false
is_leaf _ = true

-- a path, and the value there
abbrev pub Leaf : Type 0
Leaf = List Step × Json

abbrev pub under : Step → Leaf → Leaf
under s l = (s ∷ l.0, l.1)

-- the leaves of a value whose members stand in order
abbrev mutual
  pub leaves_within : Json → List Leaf
  leaves_within (array (item j js)) = item_leaves 0 (item j js)
  leaves_within (object (member k j ms)) = member_leaves (member k j ms)
  leaves_within j = ([], j) ∷ []

  -- of items whose first index is i
  pub item_leaves : ℕ → Items → List Leaf
  item_leaves i no_items = []
  item_leaves i (item j js) = map (under (index i)) (leaves_within j) ++ item_leaves (suc i) js

  pub member_leaves : Members → List Leaf
  member_leaves no_members = []
  member_leaves (member k j ms) = map (under (key k)) (leaves_within j) ++ member_leaves ms

-- the leaves of a value, in the order of their paths
abbrev pub leaves : Json → List Leaf
leaves j = leaves_within (arranged j)
