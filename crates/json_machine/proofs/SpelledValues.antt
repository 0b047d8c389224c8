-- The value of a tree is a value, and it nests no deeper than the tree.
use Rattle.std.proofs.Common.{◌≤◌, max, [], ◌∷◌, sym, subst, arith}
use Rattle.std.specs.List.{AllByRecursion}
use Rattle.text_spec.proofs.JsonLemmas.{members_list-of}
use Rattle.text_spec.specs.Json.{members_of, levels, items_levels, members_levels, settled, HasDistinctKeys}
use Rattle.text_spec.specs.JsonText as grammar
use Rattle.text_spec.specs.JsonText.{string_bytes, Tree, Element, element, Elements, last_element, next_element, Member, member, Members, last_member, next_member, value, element_value, elements_value, member_pair, member_pairs, IsTree, IsElement, AreElements, IsMember, AreMembers, depth, element_depth, elements_depth, member_depth, members_depth}
use Rattle.json_machine.specs.Values.{IsValue, AreValues}
use Rattle.json_machine.proofs.TextUtf8.{pieces_utf8}
use Rattle.json_machine.proofs.SettledMembers.{IsKeyed, keyed-values, keyed-settled, distinct-settled, levels-settled}

mutual
  value-is : (t : Tree) → IsTree t → IsValue (value t)
  value-is grammar.null h = tt
  value-is (grammar.boolean b) h = tt
  value-is (grammar.number s) h = h
  value-is (grammar.string ps) h = pieces_utf8 ps h
  value-is (grammar.empty_array xs) h = tt
  value-is (grammar.array e es) h = (element_value-is e h.0, elements_value-is es h.1)
  value-is (grammar.empty_object xs) h = (tt, tt)
  value-is (grammar.object m ms) h =
      let pairs = member_pair m ∷ member_pairs ms in (
        keyed-values (settled [] pairs) (keyed-settled pairs [] tt (member_pair-is m h.0, member_pairs-are ms h.1)),
        subst HasDistinctKeys (sym (members_list-of (settled [] pairs))) (distinct-settled pairs [] tt),
      )

  pub element_value-is : (e : Element) → IsElement e → IsValue (element_value e)
  element_value-is (element before t after) h = value-is t h.1

  elements_value-is : (es : Elements) → AreElements es → AreValues (elements_value es)
  elements_value-is last_element h = tt
  elements_value-is (next_element e es) h = (element_value-is e h.0, elements_value-is es h.1)

  member_pair-is : (m : Member) → IsMember m → IsKeyed (member_pair m)
  member_pair-is (member before key after e) h = (pieces_utf8 key h.1, element_value-is e h.3)

  member_pairs-are : (ms : Members) → AreMembers ms → AllByRecursion IsKeyed (member_pairs ms)
  member_pairs-are last_member h = tt
  member_pairs-are (next_member m ms) h = (member_pair-is m h.0, member_pairs-are ms h.1)

mutual
  levels-value : (t : Tree) → levels (value t) ≤ depth t
  levels-value grammar.null = omega arith
  levels-value (grammar.boolean b) = omega arith
  levels-value (grammar.number s) = omega arith
  levels-value (grammar.string ps) = omega arith
  levels-value (grammar.empty_array xs) = omega arith
  levels-value (grammar.array e es) = omega (arith, levels-element e, levels-elements es)
  levels-value (grammar.empty_object xs) = omega arith
  levels-value (grammar.object m ms) =
      let deepest = max (member_depth m) (members_depth ms) in
      omega (arith, levels-settled (member_pair m ∷ member_pairs ms) [] deepest (omega arith) (omega (arith, levels-member m, levels-members ms)))

  pub levels-element : (e : Element) → levels (element_value e) ≤ element_depth e
  levels-element (element before t after) = levels-value t

  levels-elements : (es : Elements) → items_levels (elements_value es) ≤ elements_depth es
  levels-elements last_element = omega arith
  levels-elements (next_element e es) = omega (arith, levels-element e, levels-elements es)

  levels-member : (m : Member) → levels (member_pair m).1 ≤ member_depth m
  levels-member (member before key after e) = levels-element e

  levels-members : (ms : Members) → members_levels (members_of (member_pairs ms)) ≤ members_depth ms
  levels-members last_member = omega arith
  levels-members (next_member m ms) = omega (arith, levels-member m, levels-members ms)
