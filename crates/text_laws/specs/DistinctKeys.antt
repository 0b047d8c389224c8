-- Values whose objects have distinct keys, and values that differ only in the order of members.
use Rattle.std.specs.Prelude.{◌≡◌, ℕ, List}
use Rattle.std.specs.List.Sorted.{IsPermutation}
use Rattle.json_machine.specs.text_spec.Json.{Json, array, object, Items, no_items, item, Members, no_members, member, members_list, members_of, HasDistinctKeys}

-- every object in the value has distinct keys
abbrev mutual
  pub HasDistinctKeysThroughout : Json → Type 0
  HasDistinctKeysThroughout (array js) = HaveDistinctKeys js
  HasDistinctKeysThroughout (object ms) = HasDistinctKeys (members_list ms) × HoldDistinctKeys ms
  HasDistinctKeysThroughout _ = Unit {0}

  pub HaveDistinctKeys : Items → Type 0
  HaveDistinctKeys no_items = Unit {0}
  HaveDistinctKeys (item j js) = HasDistinctKeysThroughout j × HaveDistinctKeys js

  pub HoldDistinctKeys : Members → Type 0
  HoldDistinctKeys no_members = Unit {0}
  HoldDistinctKeys (member k j ms) = HasDistinctKeysThroughout j × HoldDistinctKeys ms

-- the second value is the first with the members of its objects reordered, at any depth
abbrev mutual
  pub IsReordered : Json → Json → Type 0
  IsReordered (array js) b = (ks : Items) × AreReordered js ks × (b ≡ array ks)
  IsReordered (object ms) b = (ns : Members) × (moved : List (List ℕ × Json)) × HoldReordered ms ns × IsPermutation (members_list ns) moved × (b ≡ object (members_of moved))
  IsReordered a b = a ≡ b

  -- item by item
  pub AreReordered : Items → Items → Type 0
  AreReordered no_items ks = no_items ≡ ks
  AreReordered (item j js) ks = (i : Json) × (rest : Items) × IsReordered j i × AreReordered js rest × (item i rest ≡ ks)

  -- member by member, with equal keys
  pub HoldReordered : Members → Members → Type 0
  HoldReordered no_members ns = no_members ≡ ns
  HoldReordered (member k j ms) ns = (i : Json) × (rest : Members) × IsReordered j i × HoldReordered ms rest × (member k i rest ≡ ns)
