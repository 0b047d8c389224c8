-- The compact text of a value spells the value.
use Rattle.std.proofs.Common.{◌≡◌, ◌∙◌, ℕ, suc, ◌≤◌, max, List, [], ◌∷◌, ◌++◌, refl, sym, ap, true, arith, append_assoc}
use Rattle.std.specs.Str.{chars}
use Rattle.std.proofs.lemmas.List.{append-nil}
use Rattle.text_spec.proofs.JsonLemmas.{members_of-list}
use Rattle.text_spec.specs.Json as spec
use Rattle.text_spec.specs.Json.{Json, Items, item, no_items, Members, member, no_members, members_of, members_list, levels, items_levels, members_levels, settled}
use Rattle.text_spec.specs.Compact.{compact, compact_items, compact_members, quoted}
use Rattle.text_spec.specs.JsonText as grammar
use Rattle.text_spec.specs.JsonText.{Tree, Element, element, Elements, last_element, next_element, last_member, next_member, text, element_text, elements_text, members_text, value, elements_value, member_pairs, depth, elements_depth, members_depth, IsTree, AreElements, AreMembers, SpellsWithin, Spells}
use Rattle.json_machine.specs.Values.{IsValue, AreValues, AreMemberValues}
use Rattle.json_machine.proofs.CompactCharacters.{pieces_of, string_text-pieces, string_bytes-pieces, string_pieces-are}
use Rattle.json_machine.proofs.SettledMembers.{settled-distinct}

-- ---- the tree with no white space

abbrev bare : Tree → Element
bare t = element [] t []

abbrev keyed : List ℕ → Tree → grammar.Member
keyed k t = grammar.member [] (pieces_of (chars k)) [] (bare t)

abbrev mutual
  tree_of : Json → Tree
  tree_of spec.null = grammar.null
  tree_of (spec.boolean b) = grammar.boolean b
  tree_of (spec.number s) = grammar.number s
  tree_of (spec.string s) = grammar.string (pieces_of (chars s))
  tree_of (spec.array no_items) = grammar.empty_array []
  tree_of (spec.array (item j js)) = grammar.array (bare (tree_of j)) (elements_of js)
  tree_of (spec.object no_members) = grammar.empty_object []
  tree_of (spec.object (member k j ms)) = grammar.object (keyed k (tree_of j)) (others_of ms)

  elements_of : Items → Elements
  elements_of no_items = last_element
  elements_of (item j js) = next_element (bare (tree_of j)) (elements_of js)

  others_of : Members → grammar.Members
  others_of no_members = last_member
  others_of (member k j ms) = next_member (keyed k (tree_of j)) (others_of ms)

-- ---- its text is the compact text

mutual
  text-tree_of : (j : Json) → IsValue j → text (tree_of j) ≡ compact j
  text-tree_of spec.null h = refl
  text-tree_of (spec.boolean b) h = refl
  text-tree_of (spec.number s) h = refl
  text-tree_of (spec.string s) h = string_text-pieces s h
  text-tree_of (spec.array no_items) h = refl
  text-tree_of (spec.array (item j js)) h = λ i. 91 ∷ (append-nil (text-tree_of j h.0 i) i ++ elements_text-of js h.1 i)
  text-tree_of (spec.object no_members) h = refl
  text-tree_of (spec.object (member k j ms)) h =
      (λ i. 123 ∷ ((append-nil (string_text-pieces k h.0.0 i) i ++ 58 ∷ append-nil (text-tree_of j h.0.1 i) i) ++ members_text-of ms h.0.2 i))
      ∙ ap (λ s. 123 ∷ s) (append_assoc (quoted k) (58 ∷ compact j) (compact_members true ms))

  elements_text-of : (js : Items) → AreValues js → elements_text (elements_of js) ≡ compact_items true js
  elements_text-of no_items h = refl
  elements_text-of (item j js) h = λ i. 44 ∷ (append-nil (text-tree_of j h.0 i) i ++ elements_text-of js h.1 i)

  members_text-of : (ms : Members) → AreMemberValues ms → members_text (others_of ms) ≡ compact_members true ms
  members_text-of no_members h = refl
  members_text-of (member k j ms) h =
      (λ i. 44 ∷ ((append-nil (string_text-pieces k h.0 i) i ++ 58 ∷ append-nil (text-tree_of j h.1 i) i) ++ members_text-of ms h.2 i))
      ∙ ap (λ s. 44 ∷ s) (append_assoc (quoted k) (58 ∷ compact j) (compact_members true ms))

-- ---- its value is the value

mutual
  value-tree_of : (j : Json) → IsValue j → value (tree_of j) ≡ j
  value-tree_of spec.null h = refl
  value-tree_of (spec.boolean b) h = refl
  value-tree_of (spec.number s) h = refl
  value-tree_of (spec.string s) h = ap spec.string (string_bytes-pieces s h)
  value-tree_of (spec.array no_items) h = refl
  value-tree_of (spec.array (item j js)) h = λ i. spec.array (item (value-tree_of j h.0 i) (elements_value-of js h.1 i))
  value-tree_of (spec.object no_members) h = refl
  value-tree_of (spec.object (member k j ms)) h =
      (λ i. spec.object (members_of (settled [] ((string_bytes-pieces k h.0.0 i, value-tree_of j h.0.1 i) ∷ member_pairs-of ms h.0.2 i))))
      ∙ ap (λ xs. spec.object (members_of xs)) (settled-distinct (members_list (member k j ms)) h.1)
      ∙ ap spec.object (members_of-list (member k j ms))

  elements_value-of : (js : Items) → AreValues js → elements_value (elements_of js) ≡ js
  elements_value-of no_items h = refl
  elements_value-of (item j js) h = λ i. item (value-tree_of j h.0 i) (elements_value-of js h.1 i)

  member_pairs-of : (ms : Members) → AreMemberValues ms → member_pairs (others_of ms) ≡ members_list ms
  member_pairs-of no_members h = refl
  member_pairs-of (member k j ms) h = λ i. (string_bytes-pieces k h.0 i, value-tree_of j h.1 i) ∷ member_pairs-of ms h.2 i

-- ---- its parts are what the productions say

mutual
  is-tree_of : (j : Json) → IsValue j → IsTree (tree_of j)
  is-tree_of spec.null h = tt
  is-tree_of (spec.boolean b) h = tt
  is-tree_of (spec.number s) h = h
  is-tree_of (spec.string s) h = string_pieces-are s h
  is-tree_of (spec.array no_items) h = tt
  is-tree_of (spec.array (item j js)) h = ((tt, is-tree_of j h.0, tt), are-elements_of js h.1)
  is-tree_of (spec.object no_members) h = tt
  is-tree_of (spec.object (member k j ms)) h = ((tt, string_pieces-are k h.0.0, tt, (tt, is-tree_of j h.0.1, tt)), are-others_of ms h.0.2)

  are-elements_of : (js : Items) → AreValues js → AreElements (elements_of js)
  are-elements_of no_items h = tt
  are-elements_of (item j js) h = ((tt, is-tree_of j h.0, tt), are-elements_of js h.1)

  are-others_of : (ms : Members) → AreMemberValues ms → AreMembers (others_of ms)
  are-others_of no_members h = tt
  are-others_of (member k j ms) h = ((tt, string_pieces-are k h.0, tt, (tt, is-tree_of j h.1, tt)), are-others_of ms h.2)

-- ---- it nests as deep as the value

mutual
  depth-tree_of : (j : Json) → depth (tree_of j) ≡ levels j
  depth-tree_of spec.null = refl
  depth-tree_of (spec.boolean b) = refl
  depth-tree_of (spec.number s) = refl
  depth-tree_of (spec.string s) = refl
  depth-tree_of (spec.array no_items) = refl
  depth-tree_of (spec.array (item j js)) = λ i. suc (max (depth-tree_of j i) (elements_depth-of js i))
  depth-tree_of (spec.object no_members) = refl
  depth-tree_of (spec.object (member k j ms)) = λ i. suc (max (depth-tree_of j i) (members_depth-of ms i))

  elements_depth-of : (js : Items) → elements_depth (elements_of js) ≡ items_levels js
  elements_depth-of no_items = refl
  elements_depth-of (item j js) = λ i. max (depth-tree_of j i) (elements_depth-of js i)

  members_depth-of : (ms : Members) → members_depth (others_of ms) ≡ members_levels ms
  members_depth-of no_members = refl
  members_depth-of (member k j ms) = λ i. max (depth-tree_of j i) (members_depth-of ms i)

-- ---- the whole

pub spells_compact : (n : ℕ) (j : Json) → IsValue j → levels j ≤ n → SpellsWithin n (compact j) j
spells_compact n j h l = record {
  tree = bare (tree_of j);
  is_tree = (tt, is-tree_of j h, tt);
  bytes_are = sym (text-tree_of j h) ∙ sym (append-nil (text (tree_of j)));
  value_is = sym (value-tree_of j h);
  levels = omega (arith, l, depth-tree_of j);
}
