-- Values in which numbers are spelt as numbers, texts are UTF-8 and keys are distinct: their canonical texts tell them apart.
use Rattle.std.proofs.Common.{◌≡◌, ℕ, suc, max, List, Bool, true, false, if◌then◌else◌, refl, sym, ap, ◌∙◌, subst, arith}
use Rattle.std.specs.Ordering.{is_gt}
use Rattle.std.specs.Str.{IsUtf8}
use Rattle.json_machine.specs.text_spec.Json.{Json, null, boolean, number, string, array, object, Items, no_items, item, Members, no_members, member, levels, items_levels, members_levels}
use Rattle.json_machine.specs.text_spec.Compact.{text_cmp, insert_member, arranged, arranged_items, arranged_members, compact, canonical}
use Rattle.json_machine.specs.Values.{IsValue, AreValues, AreMemberValues}
use Rattle.json_machine.proofs.Spelled.{compact_spells, compact_tells_apart}
use Rattle.text_laws.specs.ValueLaws.{CanonicalTextSpells, CanonicalTextsTellApart, EqualInOrderIsOneCanonicalText, OneCanonicalTextIsSame}
use Rattle.text_laws.specs.DistinctKeys.{IsReordered, HasDistinctKeysThroughout, HaveDistinctKeys, HoldDistinctKeys}
use Rattle.text_laws.proofs.MemberLaws.{AreSorted-distinct}
use Rattle.text_laws.proofs.CanonicalLaws.{arranged-sorted, canonical_reordered}
use Rattle.text_laws.proofs.ReorderedLaws.{arranged_is_reordered}
use Rattle.text_laws.proofs.OrderLaws.{equal_is_alike_arranged}
use Rattle.text_laws.proofs.SameLaws.{alike_arranged_is_same}

mutual
  pub value-keys : (a : Json) → IsValue a → HasDistinctKeysThroughout a
  value-keys null h = tt
  value-keys (boolean b) h = tt
  value-keys (number s) h = tt
  value-keys (string s) h = tt
  value-keys (array js) h = values-keys js h
  value-keys (object ms) h = (h.1, member_values-keys ms h.0)

  values-keys : (js : Items) → AreValues js → HaveDistinctKeys js
  values-keys no_items h = tt
  values-keys (item j js) h = (value-keys j h.0, values-keys js h.1)

  member_values-keys : (ms : Members) → AreMemberValues ms → HoldDistinctKeys ms
  member_values-keys no_members h = tt
  member_values-keys (member k j ms) h = (value-keys j h.1, member_values-keys ms h.2)

module _ (k : List ℕ) (j : Json) where
  values_step : (b : Bool) (m : List ℕ) (x : Json) (ms new : Members) → IsUtf8 k → IsValue j → AreMemberValues (member m x ms) → AreMemberValues new → AreMemberValues (if b then member m x new else member k j (member m x ms))
  values_step true m x ms new u v h n = (h.0, h.1, n)
  values_step false m x ms new u v h n = (u, v, h)

  values-insert : (ms : Members) → IsUtf8 k → IsValue j → AreMemberValues ms → AreMemberValues (insert_member k j ms)
  values-insert no_members u v h = (u, v, tt)
  values-insert (member m x ms) u v h = values_step (is_gt (text_cmp k m)) m x ms (insert_member k j ms) u v h (values-insert ms u v h.2)

  levels_step : (b : Bool) (m : List ℕ) (x : Json) (ms new : Members) → members_levels new ≡ max (levels j) (members_levels ms) → members_levels (if b then member m x new else member k j (member m x ms)) ≡ max (levels j) (max (levels x) (members_levels ms))
  levels_step true m x ms new e = omega arith
  levels_step false m x ms new e = refl

  levels-insert : (ms : Members) → members_levels (insert_member k j ms) ≡ max (levels j) (members_levels ms)
  levels-insert no_members = refl
  levels-insert (member m x ms) = levels_step (is_gt (text_cmp k m)) m x ms (insert_member k j ms) (levels-insert ms)

mutual
  pub arranged-is_value : (a : Json) → IsValue a → IsValue (arranged a)
  arranged-is_value null h = tt
  arranged-is_value (boolean b) h = tt
  arranged-is_value (number s) h = h
  arranged-is_value (string s) h = h
  arranged-is_value (array js) h = arranged-are_values js h
  arranged-is_value (object ms) h = (arranged-are_member_values ms h.0, AreSorted-distinct (arranged_members ms) (arranged-sorted ms h.1))

  arranged-are_values : (js : Items) → AreValues js → AreValues (arranged_items js)
  arranged-are_values no_items h = tt
  arranged-are_values (item j js) h = (arranged-is_value j h.0, arranged-are_values js h.1)

  arranged-are_member_values : (ms : Members) → AreMemberValues ms → AreMemberValues (arranged_members ms)
  arranged-are_member_values no_members h = tt
  arranged-are_member_values (member k j ms) h = values-insert k (arranged j) (arranged_members ms) h.0 (arranged-is_value j h.1) (arranged-are_member_values ms h.2)

mutual
  pub levels-arranged : (a : Json) → levels (arranged a) ≡ levels a
  levels-arranged null = refl
  levels-arranged (boolean b) = refl
  levels-arranged (number s) = refl
  levels-arranged (string s) = refl
  levels-arranged (array js) = ap suc (items_levels-arranged js)
  levels-arranged (object ms) = ap suc (members_levels-arranged ms)

  items_levels-arranged : (js : Items) → items_levels (arranged_items js) ≡ items_levels js
  items_levels-arranged no_items = refl
  items_levels-arranged (item j js) = λ i. max (levels-arranged j i) (items_levels-arranged js i)

  members_levels-arranged : (ms : Members) → members_levels (arranged_members ms) ≡ members_levels ms
  members_levels-arranged no_members = refl
  members_levels-arranged (member k j ms) = levels-insert k (arranged j) (arranged_members ms) ∙ (λ i. max (levels-arranged j i) (members_levels-arranged ms i))

pub canonical_text_spells : CanonicalTextSpells
canonical_text_spells a h below = compact_spells (arranged a) (arranged-is_value a h) (rw (levels-arranged a) below)

-- one canonical text, one arranged value
pub canonical_tells : (a b : Json) → IsValue a → IsValue b → canonical a ≡ canonical b → arranged a ≡ arranged b
canonical_tells a b h g = compact_tells_apart (arranged a) (arranged b) (arranged-is_value a h) (arranged-is_value b g)

pub canonical_texts_tell_apart : CanonicalTextsTellApart
canonical_texts_tell_apart a b h g = (
  λ e. (arranged a, arranged_is_reordered a, subst (IsReordered b) (sym (canonical_tells a b h g e)) (arranged_is_reordered b)),
  λ c. canonical_reordered a c.0 (value-keys a h) c.1 ∙ sym (canonical_reordered b c.0 (value-keys b g) c.2),
)

pub equal_is_one_canonical_text : EqualInOrderIsOneCanonicalText
equal_is_one_canonical_text a b h g = (λ e. ap compact ((equal_is_alike_arranged a b).0 e), λ e. (equal_is_alike_arranged a b).1 (canonical_tells a b h g e))

pub one_canonical_text_is_same : OneCanonicalTextIsSame
one_canonical_text_is_same a b h g e = alike_arranged_is_same (a, value-keys a h) (b, value-keys b g) (canonical_tells a b h g e)
