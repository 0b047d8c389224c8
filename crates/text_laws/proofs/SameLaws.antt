-- Values that are the same form classes, which an arrangement keeps.
use Rattle.std.proofs.Common.{◌≡◌, ◌⊎◌, ℕ, ℤ, List, [], ◌∷◌, Bool, true, false, not, ◌&&◌, if◌then◌else◌, Option, Some, None, is_some, option_map, inl, inr, refl, sym, ap, ◌∙◌, subst, true≢false, codes}
use Rattle.std.proofs.lemmas.Cmp.{int_cmp_total, tied_itself}
use Rattle.std.proofs.lemmas.Option.{none-some, same_Some}
use Rattle.std.proofs.lemmas.Slice.Eq.{bytes_eq-Decides}
use Rattle.std.specs.Cmp.{equiv, both_ways, signed_Decides}
use Rattle.std.specs.Option.{option_map_or}
use Rattle.std.specs.Ordering.{is_eq, is_some_and}
use Rattle.std.specs.declared.cmp.Ordering.TheVariants.{Equal}
use Rattle.std.specs.Str.{bytes_eq}
use Rattle.json_machine.proofs.of_plain_laws.Lists.{bytes_eq-itself}
use Rattle.json_machine.proofs.of_plain_laws.Booleans.{both_true}
use Rattle.json_machine.specs.text_spec.Json.{Json, null, boolean, number, string, array, object, Items, no_items, item, Members, no_members, member, members_list, find_member, HasDistinctKeys}
use Rattle.json_machine.specs.text_spec.Compact.{arranged, arranged_items, arranged_members}
use Rattle.json_machine.specs.text_spec.Number.{scaled, compare_scaled}
use Rattle.json_machine.specs.text_spec.Order.{same, same_items, same_members, same_number, has_keys}
use Rattle.text_laws.specs.DistinctKeys.{HasDistinctKeysThroughout, HaveDistinctKeys, HoldDistinctKeys}
use Rattle.text_laws.specs.SameLaws.{SameIsAnEquivalence, AlikeArrangedIsSame, SameMayDiffer}
use Rattle.text_laws.proofs.MemberLaws.{found_first, find_behind, AreSorted-distinct}
use Rattle.text_laws.proofs.CanonicalLaws.{find-arranged, arranged-sorted}
use Rattle.text_laws.proofs.OrderLaws.{rebuilt, flag_in, bytes_in, items_in, members_in}

-- ---- numbers

-- one spelling, or one value
SameNumber : List ℕ → List ℕ → Type 0
SameNumber s t = (s ≡ t) ⊎ ((m : ℤ) × (scaled s ≡ Some m) × (scaled t ≡ Some m))

pub by_spelling : (s t : List ℕ) (b : Bool) → bytes_eq s t ≡ b → is_some_and is_eq (if b then Some Equal else None) ≡ true → s ≡ t
by_spelling s t true e h = (bytes_eq-Decides s t).0 e
by_spelling s t false e h = cc

same_to : (s t : List ℕ) (o p : Option ℤ) → scaled s ≡ o → scaled t ≡ p → is_some_and is_eq (compare_scaled o p (bytes_eq s t)) ≡ true → SameNumber s t
unfolding SameNumber
same_to s t (Some m) (Some n) e f h = inr (m, e, f ∙ ap Some (sym ((signed_Decides m n).0 h)))
same_to s t (Some m) None e f h = inl (by_spelling s t _ refl h)
same_to s t None p e f h = inl (by_spelling s t _ refl h)

same_number-to : (s t : List ℕ) → same_number s t ≡ true → SameNumber s t
same_number-to s t h = same_to s t (scaled s) (scaled t) refl refl h

one_spelling : (s : List ℕ) (o : Option ℤ) → scaled s ≡ o → is_some_and is_eq (compare_scaled o o (bytes_eq s s)) ≡ true
one_spelling s None e = rw (bytes_eq-itself s) refl
one_spelling s (Some m) e = ap is_eq (tied_itself int_cmp_total m)

same_number-from : (s t : List ℕ) → SameNumber s t → same_number s t ≡ true
unfolding SameNumber
same_number-from s t (inl e) = subst (λ u. same_number s u ≡ true) e (one_spelling s (scaled s) refl)
same_number-from s t (inr h) = rw (h.1, h.2) (ap is_eq (tied_itself int_cmp_total h.0))

number_turn : (s t : List ℕ) → same_number s t ≡ true → same_number t s ≡ true
unfolding SameNumber
number_turn s t h = same_number-from t s (elim (same_number-to s t h) as (λ _. SameNumber t s) [ inl e ↦ inl (sym e) | inr v ↦ inr (v.0, v.2, v.1) ])

joined : (s t u : List ℕ) → SameNumber s t → SameNumber t u → SameNumber s u
unfolding SameNumber
joined s t u (inl e) h = subst (λ x. SameNumber x u) (sym e) h
joined s t u (inr v) (inl f) = inr (v.0, v.1, subst (λ x. scaled x ≡ Some v.0) f v.2)
joined s t u (inr v) (inr w) = inr (v.0, v.1, w.2 ∙ sym w.1 ∙ v.2)

number_chain : (s t u : List ℕ) → same_number s t ≡ true → same_number t u ≡ true → same_number s u ≡ true
number_chain s t u h k = same_number-from s u (joined s t u (same_number-to s t h) (same_number-to t u k))

-- ---- texts and truths

pub text_turn : (s t : List ℕ) → bytes_eq s t ≡ true → bytes_eq t s ≡ true
text_turn s t h = (bytes_eq-Decides t s).1 (sym ((bytes_eq-Decides s t).0 h))

text_chain : (s t u : List ℕ) → bytes_eq s t ≡ true → bytes_eq t u ≡ true → bytes_eq s u ≡ true
text_chain s t u h k = (bytes_eq-Decides s u).1 ((bytes_eq-Decides s t).0 h ∙ (bytes_eq-Decides t u).0 k)

flag_itself : (x : Bool) → (if x then x else not x) ≡ true
flag_itself true = refl
flag_itself false = refl

pub flag_is : (x y : Bool) → (if x then y else not y) ≡ true → x ≡ y
flag_is true true h = refl
flag_is true false h = cc
flag_is false true h = cc
flag_is false false h = refl

-- ---- objects, by what is found under each key

key_step : (b : Bool) (those ms : List (List ℕ × Json)) (m : List ℕ × Json) (k : List ℕ) → bytes_eq k m.0 ≡ b → is_some (find_member m.0 those) ≡ true → (is_some (find_member k ms) ≡ true → is_some (find_member k those) ≡ true) →
    is_some (if b then Some m.1 else find_member k ms) ≡ true → is_some (find_member k those) ≡ true
key_step true those ms m k e one next h = subst (λ q. is_some (find_member q those) ≡ true) (sym ((bytes_eq-Decides k m.0).0 e)) one
key_step false those ms m k e one next h = next h

pub has_keys-find : (those ms : List (List ℕ × Json)) → has_keys those ms ≡ true → (k : List ℕ) → is_some (find_member k ms) ≡ true → is_some (find_member k those) ≡ true
has_keys-find those [] h k f = cc
has_keys-find those (m ∷ ms) h k f = let parts = both_true (is_some (find_member m.0 those)) (has_keys those ms) h in key_step _ those ms m k refl parts.0 (has_keys-find those ms parts.1 k) f

some_behind : (b : Bool) (j : Json) (o : Option Json) → is_some o ≡ true → is_some (if b then Some j else o) ≡ true
some_behind true j o h = refl
some_behind false j o h = h

has_keys-from : (those ms : List (List ℕ × Json)) → ((k : List ℕ) → is_some (find_member k ms) ≡ true → is_some (find_member k those) ≡ true) → has_keys those ms ≡ true
has_keys-from those [] f = refl
has_keys-from those (m ∷ ms) f = rw (f m.0 (ap is_some (found_first m.0 m.1 ms))) (has_keys-from those ms (λ k h. f k (some_behind (bytes_eq k m.0) m.1 (find_member k ms) h)))

value_step : (b : Bool) (those ms : List (List ℕ × Json)) (k l : List ℕ) (i j : Json) → bytes_eq k l ≡ b → option_map_or (same i) (find_member l those) false ≡ true → (find_member k ms ≡ Some j → option_map_or (same j) (find_member k those) false ≡ true) →
    (if b then Some i else find_member k ms) ≡ Some j → option_map_or (same j) (find_member k those) false ≡ true
value_step true those ms k l i j e one next h =
    let key = (bytes_eq-Decides k l).0 e in
    subst (λ x. option_map_or (same x) (find_member k those) false ≡ true) (same_Some i j h) (subst (λ q. option_map_or (same i) (find_member q those) false ≡ true) (sym key) one)
value_step false those ms k l i j e one next h = next h

same_members-find : (ms : Members) (those : List (List ℕ × Json)) → same_members ms those ≡ true → (k : List ℕ) (j : Json) → find_member k (members_list ms) ≡ Some j → option_map_or (same j) (find_member k those) false ≡ true
same_members-find no_members those h k j f = absurd (none-some j f)
same_members-find (member l i ms) those h k j f =
    let parts = both_true (option_map_or (same i) (find_member l those) false) (same_members ms those) h in
    value_step _ those (members_list ms) k l i j refl parts.0 (same_members-find ms those parts.1 k j) f

same_members-from : (ms : Members) (those : List (List ℕ × Json)) → HasDistinctKeys (members_list ms) → ((k : List ℕ) (j : Json) → find_member k (members_list ms) ≡ Some j → option_map_or (same j) (find_member k those) false ≡ true) → same_members ms those ≡ true
same_members-from no_members those d f = refl
same_members-from (member l i ms) those d f =
    rw (f l i (found_first l i (members_list ms))) (same_members-from ms those d.1 (λ k j h. f k j (find_behind _ k j (l, i) (members_list ms) refl d.0 h)))

-- both are nothing, or the same
abbrev SameFound : Option Json → Option Json → Type 0
SameFound None None = Unit {0}
SameFound (Some j) (Some i) = same j i ≡ true
SameFound _ _ = ⊥

found_to : (o p : Option Json) → ((j : Json) → o ≡ Some j → option_map_or (same j) p false ≡ true) → (is_some p ≡ true → is_some o ≡ true) → SameFound o p
found_to None None v k = tt
found_to None (Some i) v k = true≢false (sym (k refl))
found_to (Some j) None v k = true≢false (sym (v j refl))
found_to (Some j) (Some i) v k = v j refl

found_value : (o p : Option Json) (j : Json) → SameFound o p → o ≡ Some j → option_map_or (same j) p false ≡ true
found_value None p j h e = absurd (none-some j e)
found_value (Some i) None j h e = absurd h
found_value (Some i) (Some x) j h e = subst (λ y. same y x ≡ true) (same_Some i j e) h

found_key : (o p : Option Json) → SameFound o p → is_some p ≡ true → is_some o ≡ true
found_key None None h e = e
found_key None (Some i) h e = absurd h
found_key (Some j) p h e = refl

module _ (ms ns : Members) where
  object_to : same (object ms) (object ns) ≡ true → (k : List ℕ) → SameFound (find_member k (members_list ms)) (find_member k (members_list ns))
  object_to h k =
      let parts = both_true (same_members ms (members_list ns)) (has_keys (members_list ms) (members_list ns)) h in
      found_to (find_member k (members_list ms)) (find_member k (members_list ns)) (same_members-find ms (members_list ns) parts.0 k) (has_keys-find (members_list ms) (members_list ns) parts.1 k)

  object_from : HasDistinctKeys (members_list ms) → ((k : List ℕ) → SameFound (find_member k (members_list ms)) (find_member k (members_list ns))) → same (object ms) (object ns) ≡ true
  object_from d f = rw (same_members-from ms (members_list ns) d (λ k j. found_value (find_member k (members_list ms)) (find_member k (members_list ns)) j (f k)))
      (has_keys-from (members_list ms) (members_list ns) (λ k. found_key (find_member k (members_list ms)) (find_member k (members_list ns)) (f k)))

-- ---- the laws at one value

record LawsAt (a : Json) : Type 0 where
  itself : same a a ≡ true
  turn : (b : Json) → HasDistinctKeysThroughout b → same a b ≡ true → same b a ≡ true
  chain : (b c : Json) → same a b ≡ true → same b c ≡ true → same a c ≡ true
  ahead : same a (arranged a) ≡ true
  back : same (arranged a) a ≡ true

-- what is the same has the same constructor
same_rebuilt : (a b : Json) → same a b ≡ true → b ≡ rebuilt a b
same_rebuilt null null h = refl
same_rebuilt (boolean x) (boolean y) h = refl
same_rebuilt (number s) (number t) h = refl
same_rebuilt (string s) (string t) h = refl
same_rebuilt (array js) (array ks) h = refl
same_rebuilt (object ms) (object ns) h = refl
same_rebuilt a b h = cc

rebuilt-rebuilt : (a b c : Json) → rebuilt (rebuilt a b) c ≡ rebuilt a c
rebuilt-rebuilt null b c = refl
rebuilt-rebuilt (boolean x) b c = refl
rebuilt-rebuilt (number s) b c = refl
rebuilt-rebuilt (string s) b c = refl
rebuilt-rebuilt (array js) b c = refl
rebuilt-rebuilt (object ms) b c = refl

turn_by : (a : Json) → ((b : Json) → HasDistinctKeysThroughout (rebuilt a b) → same a (rebuilt a b) ≡ true → same (rebuilt a b) a ≡ true) → (b : Json) → HasDistinctKeysThroughout b → same a b ≡ true → same b a ≡ true
turn_by a f b d h =
    let e = same_rebuilt a b h in
    subst (λ x. same x a ≡ true) (sym e) (f b (subst HasDistinctKeysThroughout e d) (subst (λ x. same a x ≡ true) e h))

chain_by : (a : Json) → ((b c : Json) → same a (rebuilt a b) ≡ true → same (rebuilt a b) (rebuilt a c) ≡ true → same a (rebuilt a c) ≡ true) → (b c : Json) → same a b ≡ true → same b c ≡ true → same a c ≡ true
chain_by a f b c h k =
    let e = same_rebuilt a b h in
    let k' = subst (λ x. same x c ≡ true) e k in
    let g = same_rebuilt (rebuilt a b) c k' ∙ rebuilt-rebuilt a b c in
    subst (λ x. same a x ≡ true) (sym g) (f b c (subst (λ x. same a x ≡ true) e h) (subst (λ x. same (rebuilt a b) x ≡ true) g k'))

-- ---- what is found, where each value keeps the laws

found_itself : (o : Option Json) → ((j : Json) → o ≡ Some j → LawsAt j) → SameFound o o
found_itself None f = tt
found_itself (Some j) f = (f j refl).itself

found_turn : (o p : Option Json) → ((j : Json) → o ≡ Some j → LawsAt j) → ((i : Json) → p ≡ Some i → HasDistinctKeysThroughout i) → SameFound o p → SameFound p o
found_turn None None f d h = tt
found_turn None (Some i) f d h = h
found_turn (Some j) None f d h = h
found_turn (Some j) (Some i) f d h = (f j refl).turn i (d i refl) h

found_chain : (o p q : Option Json) → ((j : Json) → o ≡ Some j → LawsAt j) → SameFound o p → SameFound p q → SameFound o q
found_chain None None q f h k = k
found_chain None (Some i) q f h k = absurd h
found_chain (Some j) None q f h k = absurd h
found_chain (Some j) (Some i) None f h k = k
found_chain (Some j) (Some i) (Some x) f h k = (f j refl).chain i x h k

found_ahead : (o : Option Json) → ((j : Json) → o ≡ Some j → LawsAt j) → SameFound o (option_map arranged o)
found_ahead None f = tt
found_ahead (Some j) f = (f j refl).ahead

found_back : (o : Option Json) → ((j : Json) → o ≡ Some j → LawsAt j) → SameFound (option_map arranged o) o
found_back None f = tt
found_back (Some j) f = (f j refl).back

-- ---- the laws, at each value in which keys are distinct

abbrev EachKeeps : Members → Type 0
EachKeeps no_members = Unit {0}
EachKeeps (member k j ms) = LawsAt j × EachKeeps ms

module _ (k : List ℕ) (j : Json) where
  keeps_step : (b : Bool) (i : Json) (o : Option Json) → LawsAt i → (o ≡ Some j → LawsAt j) → (if b then Some i else o) ≡ Some j → LawsAt j
  keeps_step true i o l next h = subst LawsAt (same_Some i j h) l
  keeps_step false i o l next h = next h

  keeps_found : (ms : Members) → EachKeeps ms → find_member k (members_list ms) ≡ Some j → LawsAt j
  keeps_found no_members e h = absurd (none-some j h)
  keeps_found (member l i ms) e h = keeps_step (bytes_eq k l) i (find_member k (members_list ms)) e.0 (keeps_found ms e.1) h

  distinct_found_step : (b : Bool) (i : Json) (o : Option Json) → HasDistinctKeysThroughout i → (o ≡ Some j → HasDistinctKeysThroughout j) → (if b then Some i else o) ≡ Some j → HasDistinctKeysThroughout j
  distinct_found_step true i o l next h = subst HasDistinctKeysThroughout (same_Some i j h) l
  distinct_found_step false i o l next h = next h

  distinct_found : (ms : Members) → HoldDistinctKeys ms → find_member k (members_list ms) ≡ Some j → HasDistinctKeysThroughout j
  distinct_found no_members e h = absurd (none-some j h)
  distinct_found (member l i ms) e h = distinct_found_step (bytes_eq k l) i (find_member k (members_list ms)) e.0 (distinct_found ms e.1) h

object_laws : (ms : Members) → HasDistinctKeys (members_list ms) → EachKeeps ms → LawsAt (object ms)
object_laws ms d e =
    let at = λ (k : List ℕ) (j : Json). keeps_found k j ms e in
    let up = arranged_members ms in
    record {
      itself = object_from ms ms d (λ k. found_itself (find_member k (members_list ms)) (at k));
      turn = turn_by (object ms) (λ b g h.
          let ns = members_in b in
          object_from ns ms g.0 (λ k. found_turn (find_member k (members_list ms)) (find_member k (members_list ns)) (at k) (λ i. distinct_found k i ns g.1) (object_to ms ns h k)));
      chain = chain_by (object ms) (λ b c h g.
          let ns = members_in b in let os = members_in c in
          object_from ms os d (λ k. found_chain (find_member k (members_list ms)) (find_member k (members_list ns)) (find_member k (members_list os)) (at k) (object_to ms ns h k) (object_to ns os g k)));
      ahead = object_from ms up d (λ k. subst (SameFound (find_member k (members_list ms))) (sym (find-arranged k ms)) (found_ahead (find_member k (members_list ms)) (at k)));
      back = object_from up ms (AreSorted-distinct up (arranged-sorted ms d)) (λ k. subst (λ o. SameFound o (find_member k (members_list ms))) (sym (find-arranged k ms)) (found_back (find_member k (members_list ms)) (at k)));
    }

and_true : {a b : Bool} → a ≡ true → b ≡ true → (a && b) ≡ true
and_true p q = λ i. p i && q i

mutual
  laws_at : (a : Json) → HasDistinctKeysThroughout a → LawsAt a
  laws_at null d = record { itself = refl; turn = turn_by null (λ b g h. refl); chain = chain_by null (λ b c h g. refl); ahead = refl; back = refl }
  laws_at (boolean x) d = record {
    itself = flag_itself x;
    turn = turn_by (boolean x) (λ b g h. subst (λ y. (if y then x else not x) ≡ true) (flag_is x (flag_in b) h) (flag_itself x));
    chain = chain_by (boolean x) (λ b c h g. subst (λ y. (if y then flag_in c else not (flag_in c)) ≡ true) (sym (flag_is x (flag_in b) h)) g);
    ahead = flag_itself x;
    back = flag_itself x;
  }
  laws_at (number s) d =
      let itself = one_spelling s (scaled s) refl in
      record { itself = itself; turn = turn_by (number s) (λ b g h. number_turn s (bytes_in b) h); chain = chain_by (number s) (λ b c h g. number_chain s (bytes_in b) (bytes_in c) h g); ahead = itself; back = itself }
  laws_at (string s) d =
      let itself = bytes_eq-itself s in
      record { itself = itself; turn = turn_by (string s) (λ b g h. text_turn s (bytes_in b) h); chain = chain_by (string s) (λ b c h g. text_chain s (bytes_in b) (bytes_in c) h g); ahead = itself; back = itself }
  laws_at (array js) d = record {
    itself = items_itself js d;
    turn = turn_by (array js) (λ b g h. items_turn js (items_in b) d g h);
    chain = chain_by (array js) (λ b c h g. items_chain js (items_in b) (items_in c) d h g);
    ahead = items_ahead js d;
    back = items_back js d;
  }
  laws_at (object ms) d = object_laws ms d.0 (each_keeps ms d.1)

  items_itself : (js : Items) → HaveDistinctKeys js → same_items js js ≡ true
  items_itself no_items d = refl
  items_itself (item j js) d = and_true (laws_at j d.0).itself (items_itself js d.1)

  items_turn : (js ks : Items) → HaveDistinctKeys js → HaveDistinctKeys ks → same_items js ks ≡ true → same_items ks js ≡ true
  items_turn no_items no_items d e h = refl
  items_turn no_items (item k ks) d e h = h
  items_turn (item j js) no_items d e h = h
  items_turn (item j js) (item k ks) d e h = let parts = both_true (same j k) (same_items js ks) h in and_true ((laws_at j d.0).turn k e.0 parts.0) (items_turn js ks d.1 e.1 parts.1)

  items_chain : (js ks ls : Items) → HaveDistinctKeys js → same_items js ks ≡ true → same_items ks ls ≡ true → same_items js ls ≡ true
  items_chain no_items no_items ls d h g = g
  items_chain no_items (item k ks) ls d h g = cc
  items_chain (item j js) no_items ls d h g = cc
  items_chain (item j js) (item k ks) no_items d h g = g
  items_chain (item j js) (item k ks) (item l ls) d h g =
      let p = both_true (same j k) (same_items js ks) h in
      let q = both_true (same k l) (same_items ks ls) g in
      and_true ((laws_at j d.0).chain k l p.0 q.0) (items_chain js ks ls d.1 p.1 q.1)

  items_ahead : (js : Items) → HaveDistinctKeys js → same_items js (arranged_items js) ≡ true
  items_ahead no_items d = refl
  items_ahead (item j js) d = and_true (laws_at j d.0).ahead (items_ahead js d.1)

  items_back : (js : Items) → HaveDistinctKeys js → same_items (arranged_items js) js ≡ true
  items_back no_items d = refl
  items_back (item j js) d = and_true (laws_at j d.0).back (items_back js d.1)

  each_keeps : (ms : Members) → HoldDistinctKeys ms → EachKeeps ms
  each_keeps no_members d = tt
  each_keeps (member k j ms) d = (laws_at j d.0, each_keeps ms d.1)

pub same_is_an_equivalence : SameIsAnEquivalence
same_is_an_equivalence = equiv
    (record {
      symm = λ x y. both_ways (same x.0 y.0) (same y.0 x.0) ((laws_at x.0 x.1).turn y.0 y.1) ((laws_at y.0 y.1).turn x.0 x.1);
      trans = λ x y z. (laws_at x.0 x.1).chain y.0 z.0;
    })
    (λ x. (laws_at x.0 x.1).itself)

pub alike_arranged_is_same : AlikeArrangedIsSame
alike_arranged_is_same x y e = (laws_at x.0 x.1).chain (arranged x.0) y.0 (laws_at x.0 x.1).ahead (subst (λ a. same a y.0 ≡ true) (sym e) (laws_at y.0 y.1).back)

pub same_may_differ : SameMayDiffer
unfolding scaled
same_may_differ = ((number (codes "1"), tt), (number (codes "1.0"), tt), refl, λ e. cc)
