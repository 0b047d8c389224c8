-- Arranged values, and that the canonical text forgets the order of members.
use Rattle.std.proofs.Common.{◌≡◌, ℕ, List, Bool, true, false, if◌then◌else◌, Option, Some, None, option_map, IsPermutation, refl, sym, ap, ◌∙◌, subst}
use Rattle.std.specs.declared.cmp.Ordering.TheVariants.{Less}
use Rattle.std.specs.List.{AllByRecursion}
use Rattle.std.specs.List.Sorted.{IsStrictlySortedBy}
use Rattle.std.specs.Ordering.{is_gt}
use Rattle.std.specs.Str.{bytes_eq}
use Rattle.json_machine.proofs.of_text_spec.JsonLemmas.{members_list-of}
use Rattle.json_machine.proofs.of_plain_laws.Orderings.{greater_is}
use Rattle.json_machine.specs.text_spec.Json.{Json, null, boolean, number, string, array, object, Items, no_items, item, Members, no_members, member, members_list, members_of, find_member, HasDistinctKeys}
use Rattle.json_machine.specs.text_spec.Compact.{text_cmp, insert_member, arranged, arranged_items, arranged_members, compact, canonical}
use Rattle.text_laws.specs.CanonicalLaws.{keys, ArrangedMembersAscend}
use Rattle.text_laws.specs.DistinctKeys.{HasDistinctKeysThroughout, HaveDistinctKeys, HoldDistinctKeys, IsReordered, AreReordered, HoldReordered}
use Rattle.text_laws.proofs.MemberLaws.{above_apart, find-insert, insert-insert, Leads, AreSorted, AreSorted-insert, AreSorted-told, FindAlike, FindAlike-moved, distinct_moved}

-- ---- what is arranged stays

arranged_step : (b : Bool) (k m : List ℕ) (j x : Json) (ms : Members) → is_gt (text_cmp k m) ≡ b → arranged_members (insert_member k j ms) ≡ insert_member k (arranged j) (arranged_members ms) →
    arranged_members (if b then member m x (insert_member k j ms) else member k j (member m x ms)) ≡ insert_member k (arranged j) (insert_member m (arranged x) (arranged_members ms))
arranged_step true k m j x ms e next = ap (insert_member m (arranged x)) next ∙ sym (insert-insert k m (arranged j) (arranged x) (arranged_members ms) (above_apart k m (greater_is (text_cmp k m) e)))
arranged_step false k m j x ms e next = refl

arranged-insert : (k : List ℕ) (j : Json) (ms : Members) → arranged_members (insert_member k j ms) ≡ insert_member k (arranged j) (arranged_members ms)
arranged-insert k j no_members = refl
arranged-insert k j (member m x ms) = arranged_step _ k m j x ms refl (arranged-insert k j ms)

mutual
  pub arranged_stays : (a : Json) → arranged (arranged a) ≡ arranged a
  arranged_stays null = refl
  arranged_stays (boolean b) = refl
  arranged_stays (number s) = refl
  arranged_stays (string s) = refl
  arranged_stays (array js) = ap array (arranged-items js)
  arranged_stays (object ms) = ap object (arranged-members ms)

  arranged-items : (js : Items) → arranged_items (arranged_items js) ≡ arranged_items js
  arranged-items no_items = refl
  arranged-items (item j js) = λ i. item (arranged_stays j i) (arranged-items js i)

  arranged-members : (ms : Members) → arranged_members (arranged_members ms) ≡ arranged_members ms
  arranged-members no_members = refl
  arranged-members (member k j ms) = arranged-insert k (arranged j) (arranged_members ms) ∙ (λ i. insert_member k (arranged_stays j i) (arranged-members ms i))

-- ---- arranged members are sorted, and hold what the members hold

find_under : (b : Bool) (j : Json) (o : Option Json) → (if b then Some (arranged j) else option_map arranged o) ≡ option_map arranged (if b then Some j else o)
find_under true j o = refl
find_under false j o = refl

pub find-arranged : (k : List ℕ) (ms : Members) → find_member k (members_list (arranged_members ms)) ≡ option_map arranged (find_member k (members_list ms))
find-arranged k no_members = refl
find-arranged k (member l j ms) =
    find-insert k l (arranged j) (arranged_members ms) ∙ ap (λ o. if bytes_eq k l then Some (arranged j) else o) (find-arranged k ms) ∙ find_under (bytes_eq k l) j (find_member k (members_list ms))

pub arranged-sorted : (ms : Members) → HasDistinctKeys (members_list ms) → AreSorted (arranged_members ms)
arranged-sorted no_members d = tt
arranged-sorted (member k j ms) d = AreSorted-insert k (arranged j) (arranged_members ms) (find-arranged k ms ∙ ap (option_map arranged) d.0) (arranged-sorted ms d.1)

Leads-all : (k : List ℕ) (ms : Members) → Leads k ms → AllByRecursion (λ l. text_cmp k l ≡ Less) (keys ms)
Leads-all k no_members h = tt
Leads-all k (member l j ms) h = (h.0, Leads-all k ms h.1)

pub ascending : (ms : Members) → AreSorted ms → IsStrictlySortedBy text_cmp (keys ms)
unfolding IsStrictlySortedBy
ascending no_members h = tt
ascending (member k j ms) h = (Leads-all k ms h.0, ascending ms h.1)

pub arranged_members_ascend : ArrangedMembersAscend
arranged_members_ascend ms d = ascending (arranged_members ms) (arranged-sorted ms d)

-- ---- members in another order

pub arranged-alike : (ms ns : Members) → HasDistinctKeys (members_list ms) → HasDistinctKeys (members_list ns) → FindAlike (members_list ms) (members_list ns) → arranged_members ms ≡ arranged_members ns
arranged-alike ms ns d e f =
    AreSorted-told (arranged_members ms) (arranged_members ns) (arranged-sorted ms d) (arranged-sorted ns e)
    (record { finds = λ k. find-arranged k ms ∙ ap (option_map arranged) (f.finds k) ∙ sym (find-arranged k ns) })

arranged-moved : (ms : Members) (moved : List (List ℕ × Json)) → IsPermutation (members_list ms) moved → HasDistinctKeys (members_list ms) → arranged_members ms ≡ arranged_members (members_of moved)
arranged-moved ms moved p d =
    let q : IsPermutation (members_list ms) (members_list (members_of moved)) = subst (IsPermutation (members_list ms)) (sym (members_list-of moved)) p in
    arranged-alike ms (members_of moved) d (distinct_moved (members_list ms) (members_list (members_of moved)) q d) (FindAlike-moved (members_list ms) (members_list (members_of moved)) q d)

pub canonical_moved : (ms ns : List (List ℕ × Json)) → HasDistinctKeys ms → IsPermutation ms ns → canonical (object (members_of ms)) ≡ canonical (object (members_of ns))
canonical_moved ms ns d p =
    ap (λ all. compact (object all)) (arranged-moved (members_of ms) ns (subst (λ l. IsPermutation l ns) (sym (members_list-of ms)) p) (subst HasDistinctKeys (sym (members_list-of ms)) d))

-- ---- at any depth

absent_step : (b : Bool) (x y : Json) (o p : Option Json) → (o ≡ None → p ≡ None) → (if b then Some x else o) ≡ None → (if b then Some y else p) ≡ None
absent_step true x y o p next h = cc
absent_step false x y o p next h = next h

absent_kept : (q : List ℕ) (ms ns : Members) → HoldReordered ms ns → find_member q (members_list ms) ≡ None → find_member q (members_list ns) ≡ None
absent_kept q no_members ns h none = ap (λ all. find_member q (members_list all)) (sym h) ∙ none
absent_kept q (member k j ms) ns h none =
    subst (λ all. find_member q (members_list all) ≡ None) h.4 (absent_step (bytes_eq q k) j h.0 (find_member q (members_list ms)) (find_member q (members_list h.1)) (absent_kept q ms h.1 h.3) none)

distinct_kept : (ms ns : Members) → HoldReordered ms ns → HasDistinctKeys (members_list ms) → HasDistinctKeys (members_list ns)
distinct_kept no_members ns h d = subst (λ all. HasDistinctKeys (members_list all)) h d
distinct_kept (member k j ms) ns h d = subst (λ all. HasDistinctKeys (members_list all)) h.4 (absent_kept k ms h.1 h.3 d.0, distinct_kept ms h.1 h.3 d.1)

mutual
  pub arranged-reordered : (a b : Json) → HasDistinctKeysThroughout a → IsReordered a b → arranged a ≡ arranged b
  arranged-reordered null b d h = ap arranged h
  arranged-reordered (boolean x) b d h = ap arranged h
  arranged-reordered (number s) b d h = ap arranged h
  arranged-reordered (string s) b d h = ap arranged h
  arranged-reordered (array js) b d h = ap array (arranged-items_reordered js h.0 d h.1) ∙ sym (ap arranged h.2)
  arranged-reordered (object ms) b d h =
      ap object (arranged-members_reordered ms h.0 d.1 h.2 ∙ arranged-moved h.0 h.1 h.3 (distinct_kept ms h.0 h.2 d.0)) ∙ sym (ap arranged h.4)

  arranged-items_reordered : (js ks : Items) → HaveDistinctKeys js → AreReordered js ks → arranged_items js ≡ arranged_items ks
  arranged-items_reordered no_items ks d h = ap arranged_items h
  arranged-items_reordered (item j js) ks d h = (λ i. item (arranged-reordered j h.0 d.0 h.2 i) (arranged-items_reordered js h.1 d.1 h.3 i)) ∙ ap arranged_items h.4

  arranged-members_reordered : (ms ns : Members) → HoldDistinctKeys ms → HoldReordered ms ns → arranged_members ms ≡ arranged_members ns
  arranged-members_reordered no_members ns d h = ap arranged_members h
  arranged-members_reordered (member k j ms) ns d h =
      (λ i. insert_member k (arranged-reordered j h.0 d.0 h.2 i) (arranged-members_reordered ms h.1 d.1 h.3 i)) ∙ ap arranged_members h.4

pub canonical_reordered : (a b : Json) → HasDistinctKeysThroughout a → IsReordered a b → canonical a ≡ canonical b
canonical_reordered a b d h = ap compact (arranged-reordered a b d h)
