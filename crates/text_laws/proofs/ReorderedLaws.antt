-- An arrangement moves members and does no more.
use Rattle.std.proofs.Common.{◌≡◌, ℕ, List, [], ◌∷◌, Bool, true, false, if◌then◌else◌, IsPermutation, refl, ap}
use Rattle.std.proofs.lemmas.List.Sorted.{IsPermutation-refl, IsPermutation-cons, IsPermutation-trans, IsPermutation-middle}
use Rattle.std.specs.Ordering.{is_gt}
use Rattle.json_machine.specs.text_spec.Json.{Json, null, boolean, number, string, array, object, Items, no_items, item, Members, no_members, member, members_list, members_of}
use Rattle.json_machine.specs.text_spec.Compact.{text_cmp, insert_member, arranged, arranged_items, arranged_members}
use Rattle.text_laws.specs.DistinctKeys.{IsReordered, AreReordered, HoldReordered}
use Rattle.text_laws.specs.CanonicalLaws.{ArrangedIsReordered}

insert_moves : (b : Bool) (k m : List ℕ) (j x : Json) (ms new : Members) → IsPermutation ((k, j) ∷ members_list ms) (members_list new) → IsPermutation ((k, j) ∷ (m, x) ∷ members_list ms) (members_list (if b then member m x new else member k j (member m x ms)))
insert_moves true k m j x ms new p =
    let old = members_list ms in
    IsPermutation-trans ((k, j) ∷ (m, x) ∷ old) ((m, x) ∷ (k, j) ∷ old) ((m, x) ∷ members_list new) (IsPermutation-middle ((k, j) ∷ []) (m, x) old) (IsPermutation-cons (m, x) ((k, j) ∷ old) (members_list new) p)
insert_moves false k m j x ms new p = IsPermutation-refl ((k, j) ∷ (m, x) ∷ members_list ms)

insert_permutes : (k : List ℕ) (j : Json) (ms : Members) → IsPermutation ((k, j) ∷ members_list ms) (members_list (insert_member k j ms))
insert_permutes k j no_members = IsPermutation-refl ((k, j) ∷ [])
insert_permutes k j (member m x ms) = insert_moves (is_gt (text_cmp k m)) k m j x ms (insert_member k j ms) (insert_permutes k j ms)

-- the members in their places, each value arranged
abbrev in_place : Members → Members
in_place no_members = no_members
in_place (member k j ms) = member k (arranged j) (in_place ms)

arranged_permutes : (ms : Members) → IsPermutation (members_list (in_place ms)) (members_list (arranged_members ms))
arranged_permutes no_members = IsPermutation-refl []
arranged_permutes (member k j ms) =
    let m : List ℕ × Json = (k, arranged j) in
    IsPermutation-trans (m ∷ members_list (in_place ms)) (m ∷ members_list (arranged_members ms)) (members_list (insert_member k (arranged j) (arranged_members ms)))
    (IsPermutation-cons m (members_list (in_place ms)) (members_list (arranged_members ms)) (arranged_permutes ms)) (insert_permutes k (arranged j) (arranged_members ms))

of-list : (ms : Members) → ms ≡ members_of (members_list ms)
of-list no_members = refl
of-list (member k j ms) = ap (member k j) (of-list ms)

mutual
  arranged-is_reordered : (a : Json) → IsReordered a (arranged a)
  arranged-is_reordered null = refl
  arranged-is_reordered (boolean b) = refl
  arranged-is_reordered (number s) = refl
  arranged-is_reordered (string s) = refl
  arranged-is_reordered (array js) = (arranged_items js, items-are_reordered js, refl)
  arranged-is_reordered (object ms) = (in_place ms, members_list (arranged_members ms), hold-reordered ms, arranged_permutes ms, ap object (of-list (arranged_members ms)))

  items-are_reordered : (js : Items) → AreReordered js (arranged_items js)
  items-are_reordered no_items = refl
  items-are_reordered (item j js) = (arranged j, arranged_items js, arranged-is_reordered j, items-are_reordered js, refl)

  hold-reordered : (ms : Members) → HoldReordered ms (in_place ms)
  hold-reordered no_members = refl
  hold-reordered (member k j ms) = (arranged j, in_place ms, arranged-is_reordered j, hold-reordered ms, refl)

pub arranged_is_reordered : ArrangedIsReordered
arranged_is_reordered = arranged-is_reordered
