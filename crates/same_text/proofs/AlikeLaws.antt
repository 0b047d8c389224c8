-- Values that are the same have one text.
use Rattle.std.proofs.Common.{◌≡◌, ◌∙◌, ℕ, ℤ, List, [], ◌∷◌, Bool, true, false, if◌then◌else◌, Option, Some, None, is_some, option_map, refl, sym, ap, subst, true≢false}
use Rattle.std.proofs.lemmas.Option.{none-some, same_Some}
use Rattle.std.proofs.lemmas.Slice.Eq.{bytes_eq-Decides}
use Rattle.std.specs.Cmp.{signed_Decides}
use Rattle.std.specs.Option.{option_map_or}
use Rattle.std.specs.Ordering.{is_eq, is_some_and}
use Rattle.std.specs.Str.{bytes_eq}
use Rattle.json_tree.proofs.of_plain_laws.Booleans.{both_true}
use Rattle.json_tree.specs.text_spec.Json.{Json, null, boolean, number, string, array, object, Items, no_items, item, Members, no_members, member, members_list, members_of, find_member, set_member, HasDistinctKeys}
use Rattle.json_tree.specs.text_spec.Compact.{arranged, arranged_items, arranged_members, compact}
use Rattle.json_tree.specs.text_spec.Number.{scaled, compare_scaled}
use Rattle.json_tree.specs.text_spec.Order.{same, same_items, same_members, has_keys}
use Rattle.json_tree.proofs.of_text_spec.JsonLemmas.{members_list-of, distinct_keys-set}
use Rattle.text_laws.proofs.CanonicalLaws.{find-arranged, arranged-sorted}
use Rattle.text_laws.proofs.MemberLaws.{AreSorted, AreSorted-told}
use Rattle.text_laws.proofs.SameLaws.{by_spelling, flag_is, has_keys-find}
use Rattle.same_text.specs.Alike.{alike, alike_items, alike_members, by_value, same_text}

-- ---- numbers

spelled_alike : (s t : List ℕ) → s ≡ t → by_value (scaled s) s ≡ by_value (scaled t) t
spelled_alike s t e = ap (λ u. by_value (scaled u) u) e

one_number : (s t : List ℕ) (o p : Option ℤ) → scaled s ≡ o → scaled t ≡ p → is_some_and is_eq (compare_scaled o p (bytes_eq s t)) ≡ true → by_value (scaled s) s ≡ by_value (scaled t) t
one_number s t (Some m) (Some n) e f h =
    let is : m ≡ n = (signed_Decides m n).0 h in
    ap (λ o. by_value o s) (e ∙ ap Some is) ∙ (λ i. by_value (Some n) s) ∙ sym (ap (λ o. by_value o t) f)
one_number s t (Some m) None e f h = spelled_alike s t (by_spelling s t (bytes_eq s t) refl h)
one_number s t None p e f h = spelled_alike s t (by_spelling s t (bytes_eq s t) refl h)

-- ---- what is found

-- b is whether l is the first key, c whether k is, and d whether k is l
set_step : (b c d : Bool) (k l : List ℕ) (j : Json) (m : List ℕ × Json) (ms set : List (List ℕ × Json)) → bytes_eq l m.0 ≡ b → bytes_eq k m.0 ≡ c → bytes_eq k l ≡ d
    → find_member k set ≡ (if d then Some j else find_member k ms)
    → find_member k (if b then (m.0, j) ∷ ms else m ∷ set) ≡ (if d then Some j else (if c then Some m.1 else find_member k ms))
set_step true c d k l j m ms set e f g next =
    let is : l ≡ m.0 = (bytes_eq-Decides l m.0).0 e in
    let both : c ≡ d = sym f ∙ ap (bytes_eq k) (sym is) ∙ g in
    same_flag c d both f
  where
    same_flag : (c d : Bool) → c ≡ d → bytes_eq k m.0 ≡ c → find_member k ((m.0, j) ∷ ms) ≡ (if d then Some j else (if c then Some m.1 else find_member k ms))
    same_flag true true both f = rw f refl
    same_flag true false both f = cc
    same_flag false true both f = cc
    same_flag false false both f = rw f refl
set_step false true true k l j m ms set e f g next =
    let is : l ≡ m.0 = sym ((bytes_eq-Decides k l).0 g) ∙ (bytes_eq-Decides k m.0).0 f in
    absurd (true≢false (sym ((bytes_eq-Decides l m.0).1 is) ∙ e))
set_step false true false k l j m ms set e f g next = rw f refl
set_step false false true k l j m ms set e f g next = rw f next
set_step false false false k l j m ms set e f g next = rw f next

find-set : (k l : List ℕ) (j : Json) (ms : List (List ℕ × Json)) → find_member k (set_member l j ms) ≡ (if bytes_eq k l then Some j else find_member k ms)
find-set k l j [] = refl
find-set k l j (m ∷ ms) =
    set_step (bytes_eq l m.0) (bytes_eq k m.0) (bytes_eq k l) k l j m ms (set_member l j ms) refl refl refl (find-set k l j ms)

first_or : (b : Bool) (j : Json) (o : Option Json) → (if b then Some (alike j) else option_map alike o) ≡ option_map alike (if b then Some j else o)
first_or true j o = refl
first_or false j o = refl

find-alike : (k : List ℕ) (ms : Members) → find_member k (alike_members ms) ≡ option_map alike (find_member k (members_list ms))
find-alike k no_members = refl
find-alike k (member l j ms) =
    find-set k l (alike j) (alike_members ms) ∙ ap (λ o. if bytes_eq k l then Some (alike j) else o) (find-alike k ms) ∙ first_or (bytes_eq k l) j (find_member k (members_list ms))

distinct-alike : (ms : Members) → HasDistinctKeys (alike_members ms)
distinct-alike no_members = tt
distinct-alike (member k j ms) = distinct_keys-set k (alike j) (alike_members ms) (distinct-alike ms)

-- ---- the members, arranged

abbrev placed : Members → Members
placed ms = arranged_members (members_of (alike_members ms))

-- what is shown of what is found
abbrev shown : Option Json → Option Json
shown o = option_map arranged (option_map alike o)

find-placed : (k : List ℕ) (ms : Members) → find_member k (members_list (placed ms)) ≡ shown (find_member k (members_list ms))
find-placed k ms =
    find-arranged k (members_of (alike_members ms))
    ∙ ap (λ l. option_map arranged (find_member k l)) (members_list-of (alike_members ms))
    ∙ ap (option_map arranged) (find-alike k ms)

placed-sorted : (ms : Members) → AreSorted (placed ms)
placed-sorted ms = arranged-sorted (members_of (alike_members ms)) (subst HasDistinctKeys (sym (members_list-of (alike_members ms))) (distinct-alike ms))

-- ---- objects, where each value of the first keeps the law

abbrev Keeps : Json → Type 0
Keeps j = (i : Json) → same j i ≡ true → arranged (alike j) ≡ arranged (alike i)

abbrev EachKeeps : Members → Type 0
EachKeeps no_members = Unit {0}
EachKeeps (member k j ms) = Keeps j × EachKeeps ms

shown_here : (i : Json) (o : Option Json) → Keeps i → option_map_or (same i) o false ≡ true → shown o ≡ shown (Some i)
shown_here i None keeps h = absurd (true≢false (sym h))
shown_here i (Some x) keeps h = ap (λ a. Some a) (sym (keeps x h))

value_step : (b : Bool) (those ms : List (List ℕ × Json)) (k l : List ℕ) (i j : Json) → bytes_eq k l ≡ b → shown (find_member l those) ≡ shown (Some i) → (find_member k ms ≡ Some j → shown (find_member k those) ≡ shown (Some j))
    → (if b then Some i else find_member k ms) ≡ Some j → shown (find_member k those) ≡ shown (Some j)
value_step true those ms k l i j e one next h =
    ap (λ q. shown (find_member q those)) ((bytes_eq-Decides k l).0 e) ∙ one ∙ ap (λ x. shown (Some x)) (same_Some i j h)
value_step false those ms k l i j e one next h = next h

value_found : (ms : Members) (those : List (List ℕ × Json)) → EachKeeps ms → same_members ms those ≡ true → (k : List ℕ) (j : Json) → find_member k (members_list ms) ≡ Some j → shown (find_member k those) ≡ shown (Some j)
value_found no_members those each h k j f = absurd (none-some j f)
value_found (member l i ms) those each h k j f =
    let parts = both_true (option_map_or (same i) (find_member l those) false) (same_members ms those) h in
    value_step (bytes_eq k l) those (members_list ms) k l i j refl (shown_here i (find_member l those) each.0 parts.0) (value_found ms those each.1 parts.1 k j) f

shown_alike : (o p : Option Json) → ((j : Json) → o ≡ Some j → shown p ≡ shown (Some j)) → (is_some p ≡ true → is_some o ≡ true) → shown o ≡ shown p
shown_alike (Some j) p values keys = sym (values j refl)
shown_alike None None values keys = refl
shown_alike None (Some i) values keys = absurd (true≢false (sym (keys refl)))

objects : (ms ns : Members) → EachKeeps ms → same (object ms) (object ns) ≡ true → placed ms ≡ placed ns
objects ms ns each h =
    let parts = both_true (same_members ms (members_list ns)) (has_keys (members_list ms) (members_list ns)) h in
    let found : (k : List ℕ) → shown (find_member k (members_list ms)) ≡ shown (find_member k (members_list ns)) = λ k.
    shown_alike (find_member k (members_list ms)) (find_member k (members_list ns)) (value_found ms (members_list ns) each parts.0 k) (has_keys-find (members_list ms) (members_list ns) parts.1 k) in
    AreSorted-told (placed ms) (placed ns) (placed-sorted ms) (placed-sorted ns)
    (record { finds = λ k. find-placed k ms ∙ found k ∙ sym (find-placed k ns) })

-- ---- each value

mutual
  alike_when_same : (a b : Json) → same a b ≡ true → arranged (alike a) ≡ arranged (alike b)
  alike_when_same null null h = refl
  alike_when_same (boolean x) (boolean y) h = ap boolean (flag_is x y h)
  alike_when_same (number s) (number t) h = ap arranged (one_number s t (scaled s) (scaled t) refl refl h)
  alike_when_same (string s) (string t) h = ap string ((bytes_eq-Decides s t).0 h)
  alike_when_same (array js) (array ks) h = ap array (items_when_same js ks h)
  alike_when_same (object ms) (object ns) h = ap object (objects ms ns (each_keeps ms) h)
  alike_when_same a b h = cc

  items_when_same : (js ks : Items) → same_items js ks ≡ true → arranged_items (alike_items js) ≡ arranged_items (alike_items ks)
  items_when_same no_items no_items h = refl
  items_when_same no_items (item k ks) h = cc
  items_when_same (item j js) no_items h = cc
  items_when_same (item j js) (item k ks) h =
      let parts = both_true (same j k) (same_items js ks) h in
      λ i. item (alike_when_same j k parts.0 i) (items_when_same js ks parts.1 i)

  each_keeps : (ms : Members) → EachKeeps ms
  each_keeps no_members = tt
  each_keeps (member k j ms) = (λ i h. alike_when_same j i h, each_keeps ms)

pub one_text : (a b : Json) → same a b ≡ true → same_text a ≡ same_text b
one_text a b h = ap compact (alike_when_same a b h)
