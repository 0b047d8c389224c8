-- Each path of a leaf leads to it, and no leaf is missing.
use Rattle.std.proofs.Common.{◌≡◌, ◌∙◌, ℕ, zero, suc, ◌+◌, List, [], ◌∷◌, ◌++◌, map, Bool, true, false, Some, None, refl, sym, ap, subst, arith, inl, inr, if◌then◌else◌}
use Rattle.std.specs.Ordering.{is_gt}
use Rattle.std.specs.Option.{option_and_then, option_map}
use Rattle.std.specs.Str.{bytes_eq}
use Rattle.std.proofs.lemmas.Option.{same_Some}
use Rattle.std.proofs.lemmas.Slice.Eq.{bytes_eq-Decides}
use Rattle.fleet_rows.proofs.of_plain_laws.Members.{Among, Among-append_cases, Among-append_left, Among-append_right, Among-from_map, Among-map, Among-from_Contains, Contains-from_Among}
use Rattle.fleet_rows.proofs.of_plain_laws.Options.{none_some, mapped_some}
use Rattle.fleet_rows.specs.text_spec.Compact.{text_cmp, insert_member, arranged, arranged_items, arranged_members}
use Rattle.fleet_rows.specs.text_spec.Json.{Json, null, boolean, number, string, array, object, Items, no_items, item, Members, no_members, member, members_list, find_member, HasDistinctKeys}
use Rattle.text_laws.specs.DistinctKeys.{HasDistinctKeysThroughout, HaveDistinctKeys, HoldDistinctKeys}
use Rattle.text_laws.proofs.CanonicalLaws.{arranged-sorted}
use Rattle.text_laws.proofs.MemberLaws.{found_first, AreSorted-distinct}
use Rattle.fact_paths.specs.Leaves.{Step, key, index, Leaf, item_at, value_in, value_at, is_leaf, under, leaves_within, item_leaves, member_leaves, leaves}
use Rattle.fact_paths.specs.Laws.{PathsLeadBack, NoLeafIsMissing}
use Rattle.fact_paths.proofs.PathLaws.{value_at_arranged, leaf_arranged, arranged_leaf}

-- ---- arranged values keep their keys apart

hold_step : (b : Bool) (k l : List ℕ) (j i : Json) (ms more : Members) → HasDistinctKeysThroughout j → HasDistinctKeysThroughout i × HoldDistinctKeys ms → HoldDistinctKeys more → HoldDistinctKeys (if b then member l i more else member k j (member l i ms))
hold_step true k l j i ms more d h n = (h.0, n)
hold_step false k l j i ms more d h n = (d, h)

hold-insert : (k : List ℕ) (j : Json) (ms : Members) → HasDistinctKeysThroughout j → HoldDistinctKeys ms → HoldDistinctKeys (insert_member k j ms)
hold-insert k j no_members d h = (d, tt)
hold-insert k j (member l i ms) d h = hold_step (is_gt (text_cmp k l)) k l j i ms (insert_member k j ms) d h (hold-insert k j ms d h.1)

mutual
  distinct_arranged : (j : Json) → HasDistinctKeysThroughout j → HasDistinctKeysThroughout (arranged j)
  distinct_arranged null d = tt
  distinct_arranged (boolean b) d = tt
  distinct_arranged (number s) d = tt
  distinct_arranged (string s) d = tt
  distinct_arranged (array js) d = distinct_items js d
  distinct_arranged (object ms) d = (AreSorted-distinct (arranged_members ms) (arranged-sorted ms d.0), distinct_members ms d.1)

  distinct_items : (js : Items) → HaveDistinctKeys js → HaveDistinctKeys (arranged_items js)
  distinct_items no_items d = tt
  distinct_items (item j js) d = (distinct_arranged j d.0, distinct_items js d.1)

  distinct_members : (ms : Members) → HoldDistinctKeys ms → HoldDistinctKeys (arranged_members ms)
  distinct_members no_members d = tt
  distinct_members (member k j ms) d = hold-insert k (arranged j) (arranged_members ms) (distinct_arranged j d.0) (distinct_members ms d.1)

-- ---- paths lead back

pub record LeadsTo (j : Json) (l : Leaf) : Type 0 where
  pub there : value_at l.0 j ≡ Some l.1
  pub ends : is_leaf l.1 ≡ true

-- a leaf below an item
record IsBelowItem (i : ℕ) (js : Items) (l : Leaf) : Type 0 where
  pub place : ℕ
  pub value : Json
  pub leaf : Leaf
  pub is : l ≡ under (index (i + place)) leaf
  pub found : item_at place js ≡ Some value
  pub leads : LeadsTo value leaf

record IsBelowMember (ms : List (List ℕ × Json)) (l : Leaf) : Type 0 where
  pub name : List ℕ
  pub value : Json
  pub leaf : Leaf
  pub is : l ≡ under (key name) leaf
  pub found : find_member name ms ≡ Some value
  pub leads : LeadsTo value leaf

further : (s : Step) (j value : Json) (l leaf : Leaf) → l ≡ under s leaf → value_in s j ≡ Some value → LeadsTo value leaf → LeadsTo j l
further s j value l leaf is found leads =
    subst (λ m. LeadsTo j m) (sym is) (record {
      there = ap (option_and_then (value_at leaf.0)) found ∙ leads.there;
      ends = leads.ends;
    })

from_item : (js : Items) (l : Leaf) → IsBelowItem 0 js l → LeadsTo (array js) l
from_item js l b =
    let same : 0 + b.place ≡ b.place = omega arith in
    further (index b.place) (array js) b.value l b.leaf (b.is ∙ ap (λ n. under (index n) b.leaf) same) b.found b.leads

from_member : (ms : Members) (l : Leaf) → IsBelowMember (members_list ms) l → LeadsTo (object ms) l
from_member ms l b = further (key b.name) (object ms) b.value l b.leaf b.is b.found b.leads

alone : (j : Json) (l : Leaf) → is_leaf j ≡ true → Among l (([], j) ∷ []) → LeadsTo j l
alone j l ends (inl e) = subst (λ m. LeadsTo j m) (sym e) (record { there = refl; ends = ends })
alone j l ends (inr a) = absurd a

behind_step : (b : Bool) (q k : List ℕ) (i j : Json) (ms : List (List ℕ × Json)) → bytes_eq q k ≡ b → find_member k ms ≡ None → find_member q ms ≡ Some i → (if b then Some j else find_member q ms) ≡ Some i
behind_step false q k i j ms e none h = h
behind_step true q k i j ms e none h =
    let same : q ≡ k = (bytes_eq-Decides q k).0 e in
    none_some i (sym none ∙ (ap (λ m. find_member m ms) (sym same) ∙ h))

behind_item : (i : ℕ) (j : Json) (js : Items) (l : Leaf) → IsBelowItem (suc i) js l → IsBelowItem i (item j js) l
behind_item i j js l b =
    let same : suc i + b.place ≡ i + suc b.place = omega arith in
    record {
      place = suc b.place;
      value = b.value;
      leaf = b.leaf;
      is = b.is ∙ ap (λ n. under (index n) b.leaf) same;
      found = b.found;
      leads = b.leads;
    }

behind_member : (k : List ℕ) (j : Json) (ms : List (List ℕ × Json)) (l : Leaf) → find_member k ms ≡ None → IsBelowMember ms l → IsBelowMember ((k, j) ∷ ms) l
behind_member k j ms l none b =
    record {
      name = b.name;
      value = b.value;
      leaf = b.leaf;
      is = b.is;
      found = behind_step (bytes_eq b.name k) b.name k b.value j ms refl none b.found;
      leads = b.leads;
    }

mutual
  within_back : (j : Json) (l : Leaf) → HasDistinctKeysThroughout j → Among l (leaves_within j) → LeadsTo j l
  within_back null l d a = alone null l refl a
  within_back (boolean b) l d a = alone (boolean b) l refl a
  within_back (number s) l d a = alone (number s) l refl a
  within_back (string s) l d a = alone (string s) l refl a
  within_back (array no_items) l d a = alone (array no_items) l refl a
  within_back (array (item j js)) l d a = from_item (item j js) l (items_back 0 (item j js) l d a)
  within_back (object no_members) l d a = alone (object no_members) l refl a
  within_back (object (member k j ms)) l d a = from_member (member k j ms) l (members_back (member k j ms) l d.0 d.1 a)

  items_back : (i : ℕ) (js : Items) (l : Leaf) → HaveDistinctKeys js → Among l (item_leaves i js) → IsBelowItem i js l
  items_back i no_items l d a = absurd a
  items_back i (item j js) l d a =
      elim (Among-append_cases (map (under (index i)) (leaves_within j)) (item_leaves (suc i) js) l a) [
        | inl b ↦ (let image = Among-from_map (under (index i)) (leaves_within j) l b in record {
          place = 0;
          value = j;
          leaf = image.0;
          is = image.2 ∙ ap (λ n. under (index n) image.0) (omega arith);
          found = refl;
          leads = within_back j image.0 d.0 image.1;
        })
        | inr b ↦ behind_item i j js l (items_back (suc i) js l d.1 b)
      ]

  members_back : (ms : Members) (l : Leaf) → HasDistinctKeys (members_list ms) → HoldDistinctKeys ms → Among l (member_leaves ms) → IsBelowMember (members_list ms) l
  members_back no_members l d h a = absurd a
  members_back (member k j ms) l d h a =
      elim (Among-append_cases (map (under (key k)) (leaves_within j)) (member_leaves ms) l a) [
        | inl b ↦ (let image = Among-from_map (under (key k)) (leaves_within j) l b in record {
          name = k;
          value = j;
          leaf = image.0;
          is = image.2;
          found = found_first k j (members_list ms);
          leads = within_back j image.0 h.0 image.1;
        })
        | inr b ↦ behind_member k j (members_list ms) l d.0 (members_back ms l d.1 h.1 b)
      ]

pub paths_lead_back : PathsLeadBack
paths_lead_back j l d c =
    let leads = within_back (arranged j) l (distinct_arranged j d) (Among-from_Contains (leaves j) l c) in
    let image = mapped_some arranged (value_at l.0 j) l.1 (sym (value_at_arranged l.0 j) ∙ leads.there) in
    let ends : is_leaf (arranged image.0) ≡ true = ap is_leaf image.2 ∙ leads.ends in
    (image.1 ∙ ap Some (sym (arranged_leaf image.0 ends) ∙ image.2), leads.ends)

-- ---- no leaf is missing

leaf_within : (j : Json) → is_leaf j ≡ true → leaves_within j ≡ ([], j) ∷ []
leaf_within null h = refl
leaf_within (boolean b) h = refl
leaf_within (number s) h = refl
leaf_within (string s) h = refl
leaf_within (array no_items) h = refl
leaf_within (array (item j js)) h = cc
leaf_within (object no_members) h = refl
leaf_within (object (member k j ms)) h = cc

ends_here : (j end : Json) → Some j ≡ Some end → is_leaf end ≡ true → Among ([], end) (leaves_within j)
ends_here j end e h =
    let same : j ≡ end = same_Some j end e in
    subst (λ (i : Json). Among ([], end) (leaves_within i)) (sym same) (rw (leaf_within end h) (inl refl))

module _ (end : Json) (ends : is_leaf end ≡ true) where
  member_all : (b : Bool) (k l : List ℕ) (j : Json) (ms : Members) (path : List Step) → bytes_eq k l ≡ b →
      option_and_then (value_at path) (if b then Some j else find_member k (members_list ms)) ≡ Some end →
      (value_at path j ≡ Some end → Among (path, end) (leaves_within j)) →
      (option_and_then (value_at path) (find_member k (members_list ms)) ≡ Some end → Among (key k ∷ path, end) (member_leaves ms)) →
      Among (key k ∷ path, end) (map (under (key l)) (leaves_within j) ++ member_leaves ms)
  member_all true k l j ms path e found here later =
      let same : l ≡ k = sym ((bytes_eq-Decides k l).0 e) in
      Among-append_left (map (under (key l)) (leaves_within j)) (member_leaves ms) (key k ∷ path, end)
      (subst (λ (m : List ℕ). Among (key m ∷ path, end) (map (under (key l)) (leaves_within j))) same
      (Among-map (under (key l)) (leaves_within j) (path, end) (here found)))
  member_all false k l j ms path e found here later =
      Among-append_right (map (under (key l)) (leaves_within j)) (member_leaves ms) (key k ∷ path, end) (later found)

  mutual
    within_all : (j : Json) (path : List Step) → value_at path j ≡ Some end → Among (path, end) (leaves_within j)
    within_all j [] e = ends_here j end e ends
    within_all null (key k ∷ path) e = none_some end e
    within_all null (index n ∷ path) e = none_some end e
    within_all (boolean b) (key k ∷ path) e = none_some end e
    within_all (boolean b) (index n ∷ path) e = none_some end e
    within_all (number s) (key k ∷ path) e = none_some end e
    within_all (number s) (index n ∷ path) e = none_some end e
    within_all (string s) (key k ∷ path) e = none_some end e
    within_all (string s) (index n ∷ path) e = none_some end e
    within_all (array js) (key k ∷ path) e = none_some end e
    within_all (array no_items) (index n ∷ path) e = none_some end e
    within_all (array (item j js)) (index n ∷ path) e =
        let same : 0 + n ≡ n = omega arith in
        subst (λ (m : ℕ). Among (index m ∷ path, end) (item_leaves 0 (item j js))) same (items_all 0 n (item j js) path e)
    within_all (object no_members) (key k ∷ path) e = none_some end e
    within_all (object (member l j ms)) (key k ∷ path) e = members_all k (member l j ms) path e
    within_all (object ms) (index n ∷ path) e = none_some end e

    items_all : (i n : ℕ) (js : Items) (path : List Step) → option_and_then (value_at path) (item_at n js) ≡ Some end → Among (index (i + n) ∷ path, end) (item_leaves i js)
    items_all i n no_items path e = none_some end e
    items_all i zero (item j js) path e =
        let same : i ≡ i + 0 = omega arith in
        subst (λ (m : ℕ). Among (index m ∷ path, end) (item_leaves i (item j js))) same
        (Among-append_left (map (under (index i)) (leaves_within j)) (item_leaves (suc i) js) (index i ∷ path, end)
        (Among-map (under (index i)) (leaves_within j) (path, end) (within_all j path e)))
    items_all i (suc n) (item j js) path e =
        let same : suc i + n ≡ i + suc n = omega arith in
        subst (λ (m : ℕ). Among (index m ∷ path, end) (item_leaves i (item j js))) same
        (Among-append_right (map (under (index i)) (leaves_within j)) (item_leaves (suc i) js) (index (suc i + n) ∷ path, end) (items_all (suc i) n js path e))

    members_all : (k : List ℕ) (ms : Members) (path : List Step) → option_and_then (value_at path) (find_member k (members_list ms)) ≡ Some end → Among (key k ∷ path, end) (member_leaves ms)
    members_all k no_members path e = none_some end e
    members_all k (member l j ms) path e =
        member_all (bytes_eq k l) k l j ms path refl e (λ g. within_all j path g) (λ g. members_all k ms path g)

pub no_leaf_is_missing : NoLeafIsMissing
no_leaf_is_missing j end path e ends =
    Contains-from_Among (leaves j) (path, end)
    (within_all end ends (arranged j) path (value_at_arranged path j ∙ (ap (option_map arranged) e ∙ ap Some (leaf_arranged end ends))))
