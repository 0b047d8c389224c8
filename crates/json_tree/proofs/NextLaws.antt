-- Members that are taken one after the other, each time the one with the least key behind the last, are those that the
-- definition sorts in one by one.
use Rattle.std.proofs.Common.{◌≡◌, ◌∙◌, ◌⊎◌, inl, inr, ℕ, suc, ◌<◌, ◌≤◌, length, arith, List, [], ◌∷◌, map, refl, sym, ap, subst, Bool, true, false, ◌&&◌, Option, Some, None, Ordering, if◌then◌else◌}
use Rattle.std.specs.Ordering.{is_lt, is_gt, is_ne, ordering_then}
use Rattle.std.specs.declared.cmp.Ordering.TheVariants.{Less, Equal, Greater}
use Rattle.std.specs.Str.{bytes_eq}
use Rattle.std.proofs.lemmas.Cmp.{nat_list_cmp_total, tied_itself}
use Rattle.std.proofs.lemmas.Slice.Eq.{bytes_eq-Decides}
use Rattle.text_spec.proofs.of_plain_laws.Booleans.{both_true, both_ways}
use Rattle.text_spec.proofs.of_plain_laws.Orderings.{less_is}
use Rattle.text_spec.specs.Json as spec
use Rattle.text_spec.specs.Json.{Members, no_members, member, members_of, levels, members_levels, find_member, HasDistinctKeys}
use Rattle.text_spec.specs.Order.{order, members_order}
use Rattle.text_spec.specs.Compact.{text_cmp, arranged, arranged_members}
use Rattle.text_spec.proofs.TextOrder.{text_tied}
use Rattle.json_tree.specs.NextMember.{arranged_pair, rises, is_behind, is_before, next_from, behind}
use Rattle.json_tree.proofs.ArrangedLaws.{Pair, In, Above, Rising, one_order, below, above-chain, insert_pair, sorted_in, arranged-members, in-sorted, sorted-in, apart-find, rising-sorted}
use Rattle.json_tree.proofs.WalkLaws.{then_then, unequal, equal, first_equal}

-- ---- sorting in takes no notice of the values

insert_step : (b : Bool) (m l : Pair) (ls more others : List Pair) → others ≡ map arranged_pair more → (if b then arranged_pair l ∷ others else arranged_pair m ∷ arranged_pair l ∷ map arranged_pair ls) ≡ map arranged_pair (if b then l ∷ more else m ∷ l ∷ ls)
insert_step true m l ls more others e = ap (λ xs. arranged_pair l ∷ xs) e
insert_step false m l ls more others e = refl

insert-arranged : (m : Pair) (ls : List Pair) → insert_pair (arranged_pair m) (map arranged_pair ls) ≡ map arranged_pair (insert_pair m ls)
insert-arranged m [] = refl
insert-arranged m (l ∷ ls) = insert_step (is_gt (text_cmp m.0 l.0)) m l ls (insert_pair m ls) (insert_pair (arranged_pair m) (map arranged_pair ls)) (insert-arranged m ls)

sorted-arranged : (ms : List Pair) → sorted_in (map arranged_pair ms) ≡ map arranged_pair (sorted_in ms)
sorted-arranged [] = refl
sorted-arranged (m ∷ ms) = ap (insert_pair (arranged_pair m)) (sorted-arranged ms) ∙ insert-arranged m (sorted_in ms)

-- the members sorted by key, with their values arranged
abbrev pub in_order : List Pair → Members
in_order ms = members_of (map arranged_pair (sorted_in ms))

pub arranged-in_order : (ms : List Pair) → arranged_members (members_of ms) ≡ in_order ms
arranged-in_order ms = arranged-members ms ∙ ap members_of (sorted-arranged ms)

-- ---- members whose keys rise

risen : (ms : List Pair) → rises ms ≡ true → Rising ms
risen [] h = tt
risen (m ∷ []) h = (tt, tt)
risen (m ∷ n ∷ ms) h =
    let each = both_true (is_lt (text_cmp m.0 n.0)) (rises (n ∷ ms)) h in
    let lt : text_cmp m.0 n.0 ≡ Less = less_is (text_cmp m.0 n.0) each.0 in
    let rest : Rising (n ∷ ms) = risen (n ∷ ms) each.1 in
    ((lt, above-chain m.0 n.0 ms lt rest.0), rest)

insert-first : (m : Pair) (ms : List Pair) → Above m.0 ms → insert_pair m ms ≡ m ∷ ms
insert-first m [] a = refl
insert-first m (l ∷ ls) a = rw a.0 refl

sorted-risen : (ms : List Pair) → Rising ms → sorted_in ms ≡ ms
sorted-risen [] r = refl
sorted-risen (m ∷ ms) r = ap (insert_pair m) (sorted-risen ms r.1) ∙ insert-first m ms r.0

-- they are arranged as they stand
pub arranged-risen : (ms : List Pair) → rises ms ≡ true → members_of (map arranged_pair ms) ≡ arranged_members (members_of ms)
arranged-risen ms h = ap (λ xs. members_of (map arranged_pair xs)) (sym (sorted-risen ms (risen ms h))) ∙ sym (arranged-in_order ms)

-- ---- the next member

abbrev IsNext : Option (List ℕ) → (Pair → Type 0) → Option Pair → Type 0
IsNext last Seen None = (z : Pair) → Seen z → is_behind last z.0 ≡ false
IsNext last Seen (Some m) = Seen m × (is_behind last m.0 ≡ true) × ((z : Pair) → Seen z → is_behind last z.0 ≡ true → is_lt (text_cmp z.0 m.0) ≡ false)

itself : (k l : List ℕ) → k ≡ l → is_lt (text_cmp k l) ≡ false
itself k l e = subst (λ q. is_lt (text_cmp k q) ≡ false) e (ap is_lt (tied_itself nat_list_cmp_total k))

not_below : (k l m : List ℕ) (b : Bool) → is_lt (text_cmp k m) ≡ b → is_lt (text_cmp k l) ≡ false → is_lt (text_cmp m l) ≡ true → b ≡ false
not_below k l m false e h g = refl
not_below k l m true e h g =
    let far : text_cmp k l ≡ Less = nat_list_cmp_total.trans k m l (less_is (text_cmp k m) e) (less_is (text_cmp m l) g) in
    absurd (both_ways (is_lt (text_cmp k l)) (ap is_lt far) h)

module _ (last : Option (List ℕ)) (Seen : Pair → Type 0) (m : Pair) where
  More : Pair → Type 0
  More z = Seen z ⊎ (z ≡ m)

  is_behind-same : (z : Pair) (b : Bool) → z ≡ m → is_behind last m.0 ≡ b → is_behind last z.0 ≡ b
  is_behind-same z b same e = ap (λ (y : Pair). is_behind last y.0) same ∙ e

  none_more : ((z : Pair) → Seen z → is_behind last z.0 ≡ false) → is_behind last m.0 ≡ false → (z : Pair) → Seen z ⊎ (z ≡ m) → is_behind last z.0 ≡ false
  none_more h e z (inl s) = h z s
  none_more h e z (inr same) = is_behind-same z false same e

  first : ((z : Pair) → Seen z → is_behind last z.0 ≡ false) → (z : Pair) → Seen z ⊎ (z ≡ m) → is_behind last z.0 ≡ true → is_lt (text_cmp z.0 m.0) ≡ false
  first h z (inl s) e = absurd (both_ways (is_behind last z.0) e (h z s))
  first h z (inr same) e = itself z.0 m.0 (ap (λ (y : Pair). y.0) same)

  passed : (o : Pair) → ((z : Pair) → Seen z → is_behind last z.0 ≡ true → is_lt (text_cmp z.0 o.0) ≡ false) → is_behind last m.0 ≡ false → (z : Pair) → Seen z ⊎ (z ≡ m) → is_behind last z.0 ≡ true → is_lt (text_cmp z.0 o.0) ≡ false
  passed o h e z (inl s) g = h z s g
  passed o h e z (inr same) g = absurd (both_ways (is_behind last z.0) g (is_behind-same z false same e))

  farther : (o : Pair) → ((z : Pair) → Seen z → is_behind last z.0 ≡ true → is_lt (text_cmp z.0 o.0) ≡ false) → is_lt (text_cmp m.0 o.0) ≡ false → (z : Pair) → Seen z ⊎ (z ≡ m) → is_behind last z.0 ≡ true → is_lt (text_cmp z.0 o.0) ≡ false
  farther o h e z (inl s) g = h z s g
  farther o h e z (inr same) g = ap (λ (y : Pair). is_lt (text_cmp y.0 o.0)) same ∙ e

  nearer : (o : Pair) → ((z : Pair) → Seen z → is_behind last z.0 ≡ true → is_lt (text_cmp z.0 o.0) ≡ false) → is_lt (text_cmp m.0 o.0) ≡ true → (z : Pair) → Seen z ⊎ (z ≡ m) → is_behind last z.0 ≡ true → is_lt (text_cmp z.0 m.0) ≡ false
  nearer o h e z (inl s) g = not_below z.0 o.0 m.0 (is_lt (text_cmp z.0 m.0)) refl (h z s g) e
  nearer o h e z (inr same) g = itself z.0 m.0 (ap (λ (y : Pair). y.0) same)

  next_step : (next : Option Pair) (b c : Bool) → is_behind last m.0 ≡ b → is_before m.0 next ≡ c → IsNext last Seen next → IsNext last (λ z. Seen z ⊎ (z ≡ m)) (if b && c then Some m else next)
  next_step None false c eb ec h = none_more h eb
  next_step None true false eb ec h = absurd (both_ways true refl ec)
  next_step None true true eb ec h = (inr refl, eb, first h)
  next_step (Some o) false c eb ec h = (inl h.0, h.1, passed o h.2 eb)
  next_step (Some o) true false eb ec h = (inl h.0, h.1, farther o h.2 ec)
  next_step (Some o) true true eb ec h = (inr refl, eb, nearer o h.2 ec)

next-alike : (last : Option (List ℕ)) (P Q : Pair → Type 0) (next : Option Pair) → ((z : Pair) → P z → Q z) → ((z : Pair) → Q z → P z) → IsNext last P next → IsNext last Q next
next-alike last P Q None f g h = λ z q. h z (g z q)
next-alike last P Q (Some m) f g h = (f m h.0, h.1, λ z q e. h.2 z (g z q) e)

to_seen : (Seen : Pair → Type 0) (m : Pair) (ms : List Pair) (z : Pair) → (Seen z ⊎ (z ≡ m)) ⊎ In z ms → Seen z ⊎ In z (m ∷ ms)
to_seen Seen m ms z (inl (inl s)) = inl s
to_seen Seen m ms z (inl (inr e)) = inr (inl e)
to_seen Seen m ms z (inr i) = inr (inr i)

from_seen : (Seen : Pair → Type 0) (m : Pair) (ms : List Pair) (z : Pair) → Seen z ⊎ In z (m ∷ ms) → (Seen z ⊎ (z ≡ m)) ⊎ In z ms
from_seen Seen m ms z (inl s) = inl (inl s)
from_seen Seen m ms z (inr (inl e)) = inl (inr e)
from_seen Seen m ms z (inr (inr i)) = inr i

left_only : (P : Type 0) → P ⊎ ⊥ → P
left_only P (inl p) = p
left_only P (inr n) = absurd n

next-found : (last : Option (List ℕ)) (Seen : Pair → Type 0) (next : Option Pair) (ms : List Pair) → IsNext last Seen next → IsNext last (λ z. Seen z ⊎ In z ms) (next_from last next ms)
next-found last Seen next [] h = next-alike last Seen (λ z. Seen z ⊎ In z []) next (λ z s. inl s) (λ z s. left_only (Seen z) s) h
next-found last Seen next (m ∷ ms) h =
    let found = (if is_behind last m.0 && is_before m.0 next then Some m else next) in
    let one = next_step last Seen m next (is_behind last m.0) (is_before m.0 next) refl refl h in
    next-alike last (λ z. (Seen z ⊎ (z ≡ m)) ⊎ In z ms) (λ z. Seen z ⊎ In z (m ∷ ms)) (next_from last found ms)
    (to_seen Seen m ms) (from_seen Seen m ms)
    (next-found last (λ z. Seen z ⊎ (z ≡ m)) found ms one)

right_only : (P : Type 0) → ⊥ ⊎ P → P
right_only P (inl n) = absurd n
right_only P (inr p) = p

next-among : (last : Option (List ℕ)) (ms : List Pair) → IsNext last (λ z. In z ms) (next_from last None ms)
next-among last ms = next-alike last (λ z. ⊥ ⊎ In z ms) (λ z. In z ms) (next_from last None ms) (λ z s. right_only (In z ms) s) (λ z i. inr i) (next-found last (λ z. ⊥) None ms (λ z n. absurd n))

-- ---- the members behind a key

in_step : (b : Bool) (last : Option (List ℕ)) (z m : Pair) (ms rest : List Pair) → is_behind last m.0 ≡ b → is_behind last z.0 ≡ true → (z ≡ m) ⊎ In z ms → (In z ms → In z rest) → In z (if b then m ∷ rest else rest)
in_step true last z m ms rest e h (inl same) next = inl same
in_step true last z m ms rest e h (inr i) next = inr (next i)
in_step false last z m ms rest e h (inl same) next = absurd (both_ways (is_behind last z.0) h (ap (λ (y : Pair). is_behind last y.0) same ∙ e))
in_step false last z m ms rest e h (inr i) next = next i

in-behind : (last : Option (List ℕ)) (ms : List Pair) (z : Pair) → In z ms → is_behind last z.0 ≡ true → In z (behind last ms)
in-behind last [] z i h = absurd i
in-behind last (m ∷ ms) z i h = in_step (is_behind last m.0) last z m ms (behind last ms) refl h i (λ j. in-behind last ms z j h)

more_in : (last : Option (List ℕ)) (z m : Pair) (ms : List Pair) → In z ms × (is_behind last z.0 ≡ true) → In z (m ∷ ms) × (is_behind last z.0 ≡ true)
more_in last z m ms h = (inr h.0, h.1)

back_step : (b : Bool) (last : Option (List ℕ)) (z m : Pair) (ms rest : List Pair) → is_behind last m.0 ≡ b → In z (if b then m ∷ rest else rest) → (In z rest → In z ms × (is_behind last z.0 ≡ true)) → In z (m ∷ ms) × (is_behind last z.0 ≡ true)
back_step true last z m ms rest e (inl same) next = (inl same, ap (λ (y : Pair). is_behind last y.0) same ∙ e)
back_step true last z m ms rest e (inr i) next = more_in last z m ms (next i)
back_step false last z m ms rest e i next = more_in last z m ms (next i)

behind-in : (last : Option (List ℕ)) (ms : List Pair) (z : Pair) → In z (behind last ms) → In z ms × (is_behind last z.0 ≡ true)
behind-in last [] z i = absurd i
behind-in last (m ∷ ms) z i = back_step (is_behind last m.0) last z m ms (behind last ms) refl i (behind-in last ms z)

missed : (b : Bool) (o : Option spec.Json) (j : spec.Json) → (if b then Some j else o) ≡ None → (b ≡ false) × (o ≡ None)
missed true o j h = cc
missed false o j h = (refl, h)

find_step : (b : Bool) (k : List ℕ) (m : Pair) (rest : List Pair) → bytes_eq k m.0 ≡ false → find_member k rest ≡ None → find_member k (if b then m ∷ rest else rest) ≡ None
find_step true k m rest e h = rw e h
find_step false k m rest e h = h

find-behind : (last : Option (List ℕ)) (k : List ℕ) (ms : List Pair) → find_member k ms ≡ None → find_member k (behind last ms) ≡ None
find-behind last k [] h = refl
find-behind last k (m ∷ ms) h =
    let each = missed (bytes_eq k m.0) (find_member k ms) m.1 h in
    find_step (is_behind last m.0) k m (behind last ms) each.0 (find-behind last k ms each.1)

distinct_step : (b : Bool) (m : Pair) (rest : List Pair) → find_member m.0 rest ≡ None → HasDistinctKeys rest → HasDistinctKeys (if b then m ∷ rest else rest)
distinct_step true m rest h d = (h, d)
distinct_step false m rest h d = d

distinct-behind : (last : Option (List ℕ)) (ms : List Pair) → HasDistinctKeys ms → HasDistinctKeys (behind last ms)
distinct-behind last [] h = tt
distinct-behind last (m ∷ ms) h = distinct_step (is_behind last m.0) m (behind last ms) (find-behind last m.0 ms h.0) (distinct-behind last ms h.1)

pub behind-none : (ms : List Pair) → behind None ms ≡ ms
behind-none [] = refl
behind-none (m ∷ ms) = ap (λ xs. m ∷ xs) (behind-none ms)

nothing_step : (b : Bool) (m : Pair) (rest : List Pair) → b ≡ false → rest ≡ [] → (if b then m ∷ rest else rest) ≡ []
nothing_step true m rest e h = absurd (both_ways true refl e)
nothing_step false m rest e h = h

nothing-behind : (last : Option (List ℕ)) (ms : List Pair) → ((z : Pair) → In z ms → is_behind last z.0 ≡ false) → behind last ms ≡ []
nothing-behind last [] h = refl
nothing-behind last (m ∷ ms) h = nothing_step (is_behind last m.0) m (behind last ms) (h m (inl refl)) (nothing-behind last ms (λ z i. h z (inr i)))

-- ---- the next member stands in front of those behind it

one_key : (ms : List Pair) (w z : Pair) → HasDistinctKeys ms → In w ms → In z ms → bytes_eq w.0 z.0 ≡ true → w ≡ z
one_key [] w z h i j e = absurd i
one_key (m ∷ ms) w z h (inl a) (inl b) e = a ∙ sym b
one_key (m ∷ ms) w z h (inl a) (inr j) e =
    absurd (both_ways (bytes_eq w.0 z.0) e (ap (λ (y : Pair). bytes_eq y.0 z.0) a ∙ apart-find m.0 ms h.0 z j))
one_key (m ∷ ms) w z h (inr i) (inl b) e =
    let same : m.0 ≡ w.0 = ap (λ (y : Pair). y.0) (sym b) ∙ sym ((bytes_eq-Decides w.0 z.0).0 e) in
    absurd (both_ways (bytes_eq m.0 w.0) ((bytes_eq-Decides m.0 w.0).1 same) (apart-find m.0 ms h.0 w i))
one_key (m ∷ ms) w z h (inr i) (inr j) e = one_key ms w z h.1 i j e

behind-later : (last : Option (List ℕ)) (k l : List ℕ) → is_behind last k ≡ true → text_cmp k l ≡ Less → is_behind last l ≡ true
behind-later None k l h lt = refl
behind-later (Some q) k l h lt = ap is_lt (nat_list_cmp_total.trans q k l (less_is (text_cmp q k) h) lt)

above-all : (k : List ℕ) (ms : List Pair) → ((z : Pair) → In z ms → text_cmp k z.0 ≡ Less) → Above k ms
above-all k [] h = tt
above-all k (m ∷ ms) h = (h m (inl refl), above-all k ms (λ z i. h z (inr i)))

module _ (last : Option (List ℕ)) (ms : List Pair) (m : Pair) (distinct : HasDistinctKeys ms) (next : IsNext last (λ z. In z ms) (Some m)) where
  rest_in : (z : Pair) → In z (sorted_in (behind (Some m.0) ms)) → In z ms × (text_cmp m.0 z.0 ≡ Less)
  rest_in z i =
      let there = behind-in (Some m.0) ms z (sorted-in (behind (Some m.0) ms) z i) in
      (there.0, less_is (text_cmp m.0 z.0) there.1)

  split : (b : Bool) (z : Pair) → bytes_eq m.0 z.0 ≡ b → In z ms → is_behind last z.0 ≡ true → (z ≡ m) ⊎ In z (sorted_in (behind (Some m.0) ms))
  split true z e i h = inl (sym (one_key ms m z distinct next.0 i e))
  split false z e i h = inr (in-sorted (behind (Some m.0) ms) z (in-behind (Some m.0) ms z i (ap is_lt (below m.0 z.0 (next.2 z i h) e))))

  forth : (z : Pair) → In z (sorted_in (behind last ms)) → (z ≡ m) ⊎ In z (sorted_in (behind (Some m.0) ms))
  forth z i =
      let there = behind-in last ms z (sorted-in (behind last ms) z i) in
      split (bytes_eq m.0 z.0) z refl there.0 there.1

  back : (z : Pair) → (z ≡ m) ⊎ In z (sorted_in (behind (Some m.0) ms)) → In z (sorted_in (behind last ms))
  back z (inl e) = subst (λ (y : Pair). In y (sorted_in (behind last ms))) (sym e) (in-sorted (behind last ms) m (in-behind last ms m next.0 next.1))
  back z (inr i) =
      let there = rest_in z i in
      in-sorted (behind last ms) z (in-behind last ms z there.0 (behind-later last m.0 z.0 next.1 there.1))

  next-first : sorted_in (behind last ms) ≡ m ∷ sorted_in (behind (Some m.0) ms)
  next-first =
      let rest = behind (Some m.0) ms in
      one_order (sorted_in (behind last ms)) (m ∷ sorted_in rest)
      (rising-sorted (behind last ms) (distinct-behind last ms distinct))
      (above-all m.0 (sorted_in rest) (λ z i. (rest_in z i).1), rising-sorted rest (distinct-behind (Some m.0) ms distinct))
      forth back

-- what is left to be taken
pub first_left : (last : Option (List ℕ)) (ms : List Pair) (m : Pair) → HasDistinctKeys ms → Some m ≡ next_from last None ms → sorted_in (behind last ms) ≡ m ∷ sorted_in (behind (Some m.0) ms)
first_left last ms m distinct e = next-first last ms m distinct (subst (IsNext last (λ z. In z ms)) (sym e) (next-among last ms))

pub none_left : (last : Option (List ℕ)) (ms : List Pair) → None ≡ next_from last None ms → sorted_in (behind last ms) ≡ []
none_left last ms e = ap sorted_in (nothing-behind last ms (subst (IsNext last (λ z. In z ms)) (sym e) (next-among last ms)))

-- the next member is one of them
next-in : (last : Option (List ℕ)) (ms : List Pair) (m : Pair) → Some m ≡ next_from last None ms → In m ms
next-in last ms m e = (subst (IsNext last (λ z. In z ms)) (sym e) (next-among last ms)).0

-- and nests no deeper than all
in-levels : (ms : List Pair) (z : Pair) → In z ms → levels z.1 ≤ members_levels (members_of ms)
in-levels [] z i = absurd i
in-levels (m ∷ ms) z (inl e) = let same : levels z.1 ≡ levels m.1 = ap (λ (y : Pair). levels y.1) e in omega (arith, same)
in-levels (m ∷ ms) z (inr i) = omega (arith, in-levels ms z i)

pub next_levels : (last : Option (List ℕ)) (ms : List Pair) (m : Pair) → Some m ≡ next_from last None ms → levels m.1 ≤ members_levels (members_of ms)
next_levels last ms m e = in-levels ms m (next-in last ms m e)

pub fewer_left : (last : Option (List ℕ)) (ms : List Pair) (m : Pair) → HasDistinctKeys ms → Some m ≡ next_from last None ms → length (sorted_in (behind (Some m.0) ms)) < length (sorted_in (behind last ms))
fewer_left last ms m distinct e =
    let size : length (sorted_in (behind last ms)) ≡ suc (length (sorted_in (behind (Some m.0) ms))) = ap length (first_left last ms m distinct e) in
    omega (arith, size)

-- ---- two lists whose members are taken at the same time

first_member : (last : Option (List ℕ)) (ms : List Pair) (m : Pair) → HasDistinctKeys ms → Some m ≡ next_from last None ms → in_order (behind last ms) ≡ member m.0 (arranged m.1) (in_order (behind (Some m.0) ms))
first_member last ms m distinct e = ap (λ xs. members_of (map arranged_pair xs)) (first_left last ms m distinct e)

no_member : (last : Option (List ℕ)) (ms : List Pair) → None ≡ next_from last None ms → in_order (behind last ms) ≡ no_members
no_member last ms e = ap (λ xs. members_of (map arranged_pair xs)) (none_left last ms e)

-- what is left of both, compared
abbrev pub order_left : Option (List ℕ) → List Pair → List Pair → Ordering
order_left last ms ns = members_order (in_order (behind last ms)) (in_order (behind last ns))

abbrev pub pair_order : Pair → Pair → Ordering
pair_order m n = ordering_then (text_cmp m.0 n.0) (order m.1 n.1)

pub all_left : (ms ns : List Pair) → order_left None ms ns ≡ members_order (arranged_members (members_of ms)) (arranged_members (members_of ns))
all_left ms ns =
    let first : in_order (behind None ms) ≡ arranged_members (members_of ms) = ap in_order (behind-none ms) ∙ sym (arranged-in_order ms) in
    let second : in_order (behind None ns) ≡ arranged_members (members_of ns) = ap in_order (behind-none ns) ∙ sym (arranged-in_order ns) in
    λ i. members_order (first i) (second i)

module _ (last : Option (List ℕ)) (ms ns : List Pair) (m n : Pair) (d : HasDistinctKeys ms) (f : HasDistinctKeys ns) (e : Some m ≡ next_from last None ms) (g : Some n ≡ next_from last None ns) where
  both_next : order_left last ms ns ≡ ordering_then (pair_order m n) (members_order (in_order (behind (Some m.0) ms)) (in_order (behind (Some n.0) ns)))
  both_next =
      let first = first_member last ms m d e in
      let second = first_member last ns n f g in
      (λ i. members_order (first i) (second i))
      ∙ then_then (text_cmp m.0 n.0) (order m.1 n.1) (members_order (in_order (behind (Some m.0) ms)) (in_order (behind (Some n.0) ns)))

  -- the members at hand tell the lists apart
  pub told_here : (o : Ordering) → o ≡ pair_order m n → is_ne o ≡ true → o ≡ order_left last ms ns
  told_here o e h = e ∙ sym (unequal (pair_order m n) (members_order (in_order (behind (Some m.0) ms)) (in_order (behind (Some n.0) ns))) (ap is_ne (sym e) ∙ h)) ∙ sym both_next

  -- those behind do
  pub told_later : (o : Ordering) → o ≡ pair_order m n → is_ne o ≡ false → order_left (Some m.0) ms ns ≡ order_left last ms ns
  told_later o e h =
      let tie : is_ne (pair_order m n) ≡ false = ap is_ne (sym e) ∙ h in
      let same : m.0 ≡ n.0 = text_tied m.0 n.0 (first_equal (text_cmp m.0 n.0) (order m.1 n.1) tie) in
      ap (λ k. members_order (in_order (behind (Some m.0) ms)) (in_order (behind (Some k) ns))) same
      ∙ sym (equal (pair_order m n) (members_order (in_order (behind (Some m.0) ms)) (in_order (behind (Some n.0) ns))) tie) ∙ sym both_next

pub first_ends : (last : Option (List ℕ)) (ms ns : List Pair) (n : Pair) → HasDistinctKeys ns → None ≡ next_from last None ms → Some n ≡ next_from last None ns → Less ≡ order_left last ms ns
first_ends last ms ns n f e g =
    let first = no_member last ms e in
    let second = first_member last ns n f g in
    λ i. members_order (sym first i) (sym second i)

pub second_ends : (last : Option (List ℕ)) (ms ns : List Pair) (m : Pair) → HasDistinctKeys ms → Some m ≡ next_from last None ms → None ≡ next_from last None ns → Greater ≡ order_left last ms ns
second_ends last ms ns m d e g =
    let first = first_member last ms m d e in
    let second = no_member last ns g in
    λ i. members_order (sym first i) (sym second i)

pub both_end : (last : Option (List ℕ)) (ms ns : List Pair) → None ≡ next_from last None ms → None ≡ next_from last None ns → Equal ≡ order_left last ms ns
both_end last ms ns e g =
    let first = no_member last ms e in
    let second = no_member last ns g in
    λ i. members_order (sym first i) (sym second i)
