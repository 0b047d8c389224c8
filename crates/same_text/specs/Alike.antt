-- A text that is equal for values that are the same.
use Rattle.std.specs.Prelude.{ℕ, ℤ, List, [], Option, Some, None}
use Rattle.std.specs.Fmt.{signed_decimal}
use Rattle.json_tree.specs.text_spec.Json.{Json, null, boolean, number, string, array, object, Items, no_items, item, Members, no_members, member, members_of, set_member}
use Rattle.json_tree.specs.text_spec.Compact.{canonical}
use Rattle.json_tree.specs.text_spec.Number.{scaled}

-- a scaled number by its value, any other number by its spelling
abbrev pub by_value : Option ℤ → List ℕ → Json
by_value (Some m) s = string (signed_decimal m)
by_value None s = number s

-- each number by its value; for equal keys, the first member
abbrev mutual
  pub alike : Json → Json
  alike null = null
  alike (boolean b) = boolean b
  alike (number s) = by_value (scaled s) s
  alike (string s) = string s
  alike (array js) = array (alike_items js)
  alike (object ms) = object (members_of (alike_members ms))

  pub alike_items : Items → Items
  alike_items no_items = no_items
  alike_items (item j js) = item (alike j) (alike_items js)

  pub alike_members : Members → List (List ℕ × Json)
  alike_members no_members = []
  alike_members (member k j ms) = set_member k (alike j) (alike_members ms)

abbrev pub same_text : Json → List ℕ
same_text j = canonical (alike j)
