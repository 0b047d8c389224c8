-- Values beside others: their order, their canonical texts, and which are the same.
use Rattle.std.proofs.Common.{◌≡◌, refl, [], ◌∷◌, true, false, codes}
use Rattle.std.specs.declared.cmp.Ordering.TheVariants.{Less, Equal, Greater}
use Rattle.json_machine.specs.text_spec.Json.{Json, null, boolean, number, string, array, object, items_of, members_of}
use Rattle.json_machine.specs.text_spec.Compact.{canonical, escaped}
use Rattle.json_machine.specs.text_spec.Number.{scaled}
use Rattle.json_machine.specs.text_spec.Order.{order, same}

-- {"b":[{"d":1,"c":2}],"a":null}
nested : Json
nested = object (members_of (
    (codes "b", array (items_of (object (members_of ((codes "d", number (codes "1")) ∷ (codes "c", number (codes "2")) ∷ [])) ∷ [])))
    ∷ (codes "a", null) ∷ []))

-- {"a":null,"b":[{"c":2.0,"d":1}]}
moved : Json
moved = object (members_of (
    (codes "a", null)
    ∷ (codes "b", array (items_of (object (members_of ((codes "c", number (codes "2.0")) ∷ (codes "d", number (codes "1")) ∷ [])) ∷ []))) ∷ []))

canonical_nested : canonical nested ≡ codes "{\"a\":null,\"b\":[{\"c\":2,\"d\":1}]}"
unfolding escaped nested
canonical_nested = refl

same_moved : same nested moved ≡ true
unfolding scaled nested moved
same_moved = refl

-- 2 comes before 2.0
order_moved : order nested moved ≡ Less
unfolding scaled nested moved
order_moved = refl

-- keys go by their bytes, a prefix first: capitals, small letters, then what is not ASCII
keys_by_bytes : canonical (object (members_of ((codes "é", null) ∷ (codes "b", null) ∷ (codes "aa", null) ∷ (codes "a", null) ∷ (codes "B", null) ∷ []))) ≡ codes "{\"B\":null,\"a\":null,\"aa\":null,\"b\":null,\"é\":null}"
unfolding escaped
keys_by_bytes = refl

items_stay : canonical (array (items_of (number (codes "2") ∷ number (codes "1") ∷ []))) ≡ codes "[2,1]"
items_stay = refl

items_keep_their_order : same (array (items_of (null ∷ boolean true ∷ []))) (array (items_of (boolean true ∷ null ∷ []))) ≡ false
items_keep_their_order = refl

a_member_more : same (object (members_of [])) (object (members_of ((codes "a", null) ∷ []))) ≡ false
a_member_more = refl

fewer_members_first : order (object (members_of [])) (object (members_of ((codes "a", null) ∷ []))) ≡ Less
fewer_members_first = refl

-- the first key decides, wherever it stands
by_first_key : order (object (members_of ((codes "b", null) ∷ []))) (object (members_of ((codes "c", null) ∷ (codes "a", boolean true) ∷ []))) ≡ Greater
by_first_key = refl

null_below_false : order null (boolean false) ≡ Less
null_below_false = refl

false_below_true : order (boolean false) (boolean true) ≡ Less
false_below_true = refl

unscaled_below_text : order (number (codes "1e400")) (string []) ≡ Less
unfolding scaled
unscaled_below_text = refl

list_below_object : order (array (items_of [])) (object (members_of [])) ≡ Less
list_below_object = refl

moved_members_are_equal : order (object (members_of ((codes "b", null) ∷ (codes "a", boolean true) ∷ []))) (object (members_of ((codes "a", boolean true) ∷ (codes "b", null) ∷ []))) ≡ Equal
moved_members_are_equal = refl
