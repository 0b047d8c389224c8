-- A value nests no deeper than the one it stands for, and what a list of pairs is set to.
use Rattle.std.proofs.Common.{◌≡◌, ℕ, ℤ, ◌≤◌, List, [], ◌∷◌, ◌++◌, Option, Some, None, refl, arith}
use Rattle.json_tree.specs.text_spec.Json.{Json, null, boolean, number, string, array, object, Items, no_items, item, Members, no_members, member, members_of, set_member, settled, levels, items_levels, members_levels}
use Rattle.json_tree.specs.text_spec.Number.{scaled}
use Rattle.json_tree.proofs.of_text_spec.JsonLemmas.{members_levels-set}
use Rattle.same_text.specs.Alike.{alike, alike_items, alike_members, by_value}

flat : (o : Option ℤ) (s : List ℕ) → levels (by_value o s) ≤ 0
flat None s = omega arith
flat (Some m) s = omega arith

mutual
  pub levels_alike : (a : Json) → levels (alike a) ≤ levels a
  levels_alike null = omega arith
  levels_alike (boolean b) = omega arith
  levels_alike (number s) = flat (scaled s) s
  levels_alike (string s) = omega arith
  levels_alike (array js) = omega (arith, items_alike js)
  levels_alike (object ms) = omega (arith, members_alike ms (members_levels ms) (omega arith))

  items_alike : (js : Items) → items_levels (alike_items js) ≤ items_levels js
  items_alike no_items = omega arith
  items_alike (item j js) = omega (arith, levels_alike j, items_alike js)

  pub members_alike : (ms : Members) (n : ℕ) → members_levels ms ≤ n → members_levels (members_of (alike_members ms)) ≤ n
  members_alike no_members n h = omega arith
  members_alike (member k j ms) n h =
      members_levels-set k (alike j) (alike_members ms) n (members_alike ms n (omega arith)) (omega (arith, levels_alike j))

-- one pair more
pub settled-push : (done xs : List (List ℕ × Json)) (k : List ℕ) (j : Json) → settled done (xs ++ (k, j) ∷ []) ≡ set_member k j (settled done xs)
settled-push done [] k j = refl
settled-push done (x ∷ xs) k j = settled-push (set_member x.0 x.1 done) xs k j
