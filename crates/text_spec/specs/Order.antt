-- The total order of JSON values, and the equality that ignores the order of members.
use Rattle.std.specs.Prelude.{ℕ, pos, List, [], ◌∷◌, Bool, true, false, not, ◌&&◌, if◌then◌else◌, is_some, unwrap_or}
use Rattle.std.specs.declared.cmp.Ordering.{Ordering}
use Rattle.std.specs.declared.cmp.Ordering.TheVariants.{Less, Equal, Greater}
use Rattle.std.specs.Ordering.{nat_cmp, int_cmp, ordering_then, is_some_and, is_eq}
use Rattle.std.specs.Option.{option_map_or}
use Rattle.std.specs.Str.{bytes_eq}
use Rattle.text_spec.specs.Json.{Json, null, boolean, number, string, array, object, Items, no_items, item, Members, no_members, member, members_list, find_member}
use Rattle.text_spec.specs.Compact.{text_cmp, arranged}
use Rattle.text_spec.specs.Number.{scaled, compare}

-- ---- the total order: null, false, true, scaled numbers, other numbers, texts, arrays, objects. In a table's cell, a moment
-- comes right after null: it has class 1, which no JSON value has.

abbrev pub class_of : Json → ℕ
class_of null = 0
class_of (boolean b) = if b then 3 else 2
class_of (number s) = if is_some (scaled s) then 4 else 5
class_of (string s) = 6
class_of (array js) = 7
class_of (object ms) = 8

-- scaled numbers by value; equal values and unscaled numbers by the bytes of the spelling
abbrev pub number_order : List ℕ → List ℕ → Ordering
number_order s t = ordering_then (int_cmp (unwrap_or (scaled s) (pos 0)) (unwrap_or (scaled t) (pos 0))) (text_cmp s t)

-- the class decides; `within` decides between values of one class
abbrev pub by_class : Json → Json → Ordering → Ordering
by_class a b within = ordering_then (nat_cmp (class_of a) (class_of b)) within

-- compares two values of one class, with the members of each object sorted by key: item by item, a prefix first
abbrev mutual
  pub class_order : Json → Json → Ordering
  class_order (number s) (number t) = number_order s t
  class_order (string s) (string t) = text_cmp s t
  class_order (array js) (array ks) = items_order js ks
  class_order (object ms) (object ns) = members_order ms ns
  class_order _ _ = Equal

  pub items_order : Items → Items → Ordering
  items_order no_items no_items = Equal
  items_order no_items (item k ks) = Less
  items_order (item j js) no_items = Greater
  items_order (item j js) (item k ks) = ordering_then (by_class j k (class_order j k)) (items_order js ks)

  pub members_order : Members → Members → Ordering
  members_order no_members no_members = Equal
  members_order no_members (member l k ns) = Less
  members_order (member i j ms) no_members = Greater
  members_order (member i j ms) (member l k ns) =
      ordering_then (text_cmp i l) (ordering_then (by_class j k (class_order j k)) (members_order ms ns))

-- objects compare as lists of members sorted by key
abbrev pub order : Json → Json → Ordering
order a b = by_class (arranged a) (arranged b) (class_order (arranged a) (arranged b))

-- ---- equality: numbers as `compare` has it, members as maps

abbrev pub same_number : List ℕ → List ℕ → Bool
same_number s t = is_some_and is_eq (compare s t)

-- each key of the second list is a key of the first
abbrev pub has_keys : List (List ℕ × Json) → List (List ℕ × Json) → Bool
has_keys those [] = true
has_keys those (m ∷ ms) = is_some (find_member m.0 those) && has_keys those ms

abbrev mutual
  pub same : Json → Json → Bool
  same null null = true
  same (boolean a) (boolean b) = if a then b else not b
  same (number s) (number t) = same_number s t
  same (string s) (string t) = bytes_eq s t
  same (array js) (array ks) = same_items js ks
  same (object ms) (object ns) = same_members ms (members_list ns) && has_keys (members_list ms) (members_list ns)
  same _ _ = false

  pub same_items : Items → Items → Bool
  same_items no_items no_items = true
  same_items (item j js) (item k ks) = same j k && same_items js ks
  same_items _ _ = false

  -- each member has an equal key there, with the same value
  pub same_members : Members → List (List ℕ × Json) → Bool
  same_members no_members those = true
  same_members (member k j ms) those = option_map_or (same j) (find_member k those) false && same_members ms those
