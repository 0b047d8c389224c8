-- Members with distinct keys that stand in the order of their keys, and are those of an object in another order, are
-- the members that the definition sorts in one by one.
use Rattle.std.proofs.Common.{◌≡◌, ◌∙◌, ◌⊎◌, inl, inr, ℕ, zero, suc, ◌+◌, ◌<◌, ◌≤◌, List, [], ◌∷◌, length, map, get_or, refl, sym, ap, subst, Bool, true, false, Option, Some, None, Ordering, arith, if◌then◌else◌}
use Rattle.std.specs.Prelude.{All, sum_by}
use Rattle.std.specs.Ordering.{is_lt, is_gt, is_eq, ordering_reverse}
use Rattle.std.specs.declared.cmp.Ordering.TheVariants.{Less, Equal, Greater}
use Rattle.std.specs.List.Sorted.{IsPermutation, IsSortedBy}
use Rattle.std.specs.Cmp.{IsStrictWeakOrder}
use Rattle.std.proofs.lemmas.List.{get_or-map, length-map}
use Rattle.std.proofs.lemmas.List.Sums.{sum_by-cons}
use Rattle.std.specs.Str.{bytes_eq}
use Rattle.std.specs.Borrow.{Bor}
use Rattle.std.proofs.lemmas.Cmp.{nat_list_cmp_total, tied_itself}
use Rattle.std.proofs.lemmas.Map.Text.{is_eq-slice_cmp}
use Rattle.std.proofs.lemmas.Slice.Eq.{bytes_eq-Decides}
use Rattle.std.proofs.lemmas.List.Sorted.{ranks_by, sorted_far, All-permutation, IsPermutation-sym, IsPermutation-map, sum_by-IsPermutation}
use Rattle.text_spec.proofs.of_plain_laws.Options.{some_none}
use Rattle.text_spec.specs.Json as spec
use Rattle.text_spec.specs.Json.{Members, members_of, find_member, HasDistinctKeys}
use Rattle.text_spec.specs.Compact.{text_cmp, insert_member, arranged, arranged_members}
use Rattle.json_tree.specs.declared.tree.Json.{Json}
use Rattle.json_tree.specs.Tree.{pairs}
use Rattle.json_tree.specs.KeyOrder.{AreInOrder}
use Rattle.json_tree.specs.Arranged.{pair_by, placed}
use Rattle.json_tree.specs.InOrder.{in_key_order}

abbrev pub Pair : Type 0
Pair = List ℕ × spec.Json

-- ---- two texts

wrong : {P : Type 0} → true ≡ false → P
wrong h = absurd (never h)
  where
    never : true ≡ false → ⊥
    never h = cc

less_cases : (o : Ordering) → is_lt (ordering_reverse o) ≡ false → is_eq o ≡ false → o ≡ Less
less_cases Less h g = refl
less_cases Equal h g = wrong g
less_cases Greater h g = wrong h

-- a text that is not above another one, and not equal, is below it
pub below : (k l : List ℕ) → is_lt (text_cmp l k) ≡ false → bytes_eq k l ≡ false → text_cmp k l ≡ Less
below k l h g = less_cases (text_cmp k l) (ap is_lt (sym (nat_list_cmp_total.antisymm l k)) ∙ h) (is_eq-slice_cmp k l ∙ g)

not_both : (k l : List ℕ) → text_cmp k l ≡ Less → text_cmp l k ≡ Less → ⊥
not_both k l h g = never (sym h ∙ nat_list_cmp_total.antisymm k l ∙ ap ordering_reverse g)
  where
    never : Less ≡ Greater → ⊥
    never e = cc

not_itself : (k : List ℕ) → text_cmp k k ≡ Less → ⊥
not_itself k h = never (sym h ∙ tied_itself nat_list_cmp_total k)
  where
    never : Less ≡ Equal → ⊥
    never e = cc

-- ---- members in strict order

abbrev pub Above : List ℕ → List Pair → Type 0
Above k [] = Unit {0}
Above k (m ∷ ms) = (text_cmp k m.0 ≡ Less) × Above k ms

abbrev pub Rising : List Pair → Type 0
Rising [] = Unit {0}
Rising (m ∷ ms) = Above m.0 ms × Rising ms

abbrev pub In : Pair → List Pair → Type 0
In z [] = ⊥
In z (m ∷ ms) = (z ≡ m) ⊎ In z ms

pub above-in : (k : List ℕ) (ms : List Pair) (z : Pair) → Above k ms → In z ms → text_cmp k z.0 ≡ Less
above-in k [] z a i = absurd i
above-in k (m ∷ ms) z a (inl e) = subst (λ (y : Pair). text_cmp k y.0 ≡ Less) (sym e) a.0
above-in k (m ∷ ms) z a (inr i) = above-in k ms z a.1 i

same_head : (x y : Pair) (xs ys : List Pair) → Above x.0 xs → Above y.0 ys → In x (y ∷ ys) → In y (x ∷ xs) → x ≡ y
same_head x y xs ys a b (inl e) i = e
same_head x y xs ys a b (inr j) (inl e) = sym e
same_head x y xs ys a b (inr j) (inr i) = absurd (not_both x.0 y.0 (above-in x.0 xs y a i) (above-in y.0 ys x b j))

tail_in : (x y : Pair) (xs ys : List Pair) → x ≡ y → Above x.0 xs → (z : Pair) → In z xs → In z (y ∷ ys) → In z ys
tail_in x y xs ys same a z i (inl e) = absurd (not_itself x.0 (subst (λ (w : Pair). text_cmp x.0 w.0 ≡ Less) (e ∙ sym same) (above-in x.0 xs z a i)))
tail_in x y xs ys same a z i (inr j) = j

-- lists in strict order with the same members are one
pub one_order : (xs ys : List Pair) → Rising xs → Rising ys → ((z : Pair) → In z xs → In z ys) → ((z : Pair) → In z ys → In z xs) → xs ≡ ys
one_order [] [] r s f g = refl
one_order [] (y ∷ ys) r s f g = absurd (g y (inl refl))
one_order (x ∷ xs) [] r s f g = absurd (f x (inl refl))
one_order (x ∷ xs) (y ∷ ys) r s f g =
    let same : x ≡ y = same_head x y xs ys r.0 s.0 (f x (inl refl)) (g y (inl refl)) in
    let rest : xs ≡ ys = one_order xs ys r.1 s.1 (λ z i. tail_in x y xs ys same r.0 z i (f z (inr i))) (λ z i. tail_in y x ys xs (sym same) s.0 z i (g z (inr i))) in
    λ i. same i ∷ rest i

-- ---- sorting in, on lists

abbrev pub insert_pair : Pair → List Pair → List Pair
insert_pair m [] = m ∷ []
insert_pair m (l ∷ ls) = if is_gt (text_cmp m.0 l.0) then l ∷ insert_pair m ls else m ∷ l ∷ ls

abbrev pub sorted_in : List Pair → List Pair
sorted_in [] = []
sorted_in (m ∷ ms) = insert_pair m (sorted_in ms)

members_step : (b : Bool) (m l : Pair) (ls more : List Pair) (rest : Members) → rest ≡ members_of more → (if b then spec.member l.0 l.1 rest else spec.member m.0 m.1 (spec.member l.0 l.1 (members_of ls))) ≡ members_of (if b then l ∷ more else m ∷ l ∷ ls)
members_step true m l ls more rest e = ap (spec.member l.0 l.1) e
members_step false m l ls more rest e = refl

insert-members : (m : Pair) (ls : List Pair) → insert_member m.0 m.1 (members_of ls) ≡ members_of (insert_pair m ls)
insert-members m [] = refl
insert-members m (l ∷ ls) = members_step (is_gt (text_cmp m.0 l.0)) m l ls (insert_pair m ls) (insert_member m.0 m.1 (members_of ls)) (insert-members m ls)

abbrev pub value_by : (spec.Json → spec.Json) → Pair → Pair
value_by g m = (m.0, g m.1)

pub arranged-members : (ms : List Pair) → arranged_members (members_of ms) ≡ members_of (sorted_in (map (value_by arranged) ms))
arranged-members [] = refl
arranged-members (m ∷ ms) = ap (insert_member m.0 (arranged m.1)) (arranged-members ms) ∙ insert-members (value_by arranged m) (sorted_in (map (value_by arranged) ms))

in_step : (b : Bool) (m l : Pair) (ls more : List Pair) (z : Pair) → ((z ≡ m) ⊎ In z ls → In z more) → (z ≡ m) ⊎ In z (l ∷ ls) → In z (if b then l ∷ more else m ∷ l ∷ ls)
in_step true m l ls more z f (inl e) = inr (f (inl e))
in_step true m l ls more z f (inr (inl e)) = inl e
in_step true m l ls more z f (inr (inr i)) = inr (f (inr i))
in_step false m l ls more z f i = i

in-insert : (m : Pair) (ls : List Pair) (z : Pair) → (z ≡ m) ⊎ In z ls → In z (insert_pair m ls)
in-insert m [] z i = i
in-insert m (l ∷ ls) z i = in_step (is_gt (text_cmp m.0 l.0)) m l ls (insert_pair m ls) z (in-insert m ls z) i

back_step : (b : Bool) (m l : Pair) (ls more : List Pair) (z : Pair) → (In z more → (z ≡ m) ⊎ In z ls) → In z (if b then l ∷ more else m ∷ l ∷ ls) → (z ≡ m) ⊎ In z (l ∷ ls)
back_step true m l ls more z f (inl e) = inr (inl e)
back_step true m l ls more z f (inr i) = moved (f i)
  where
    moved : (z ≡ m) ⊎ In z ls → (z ≡ m) ⊎ In z (l ∷ ls)
    moved (inl e) = inl e
    moved (inr i) = inr (inr i)
back_step false m l ls more z f i = i

in-back : (m : Pair) (ls : List Pair) (z : Pair) → In z (insert_pair m ls) → (z ≡ m) ⊎ In z ls
in-back m [] z i = i
in-back m (l ∷ ls) z i = back_step (is_gt (text_cmp m.0 l.0)) m l ls (insert_pair m ls) z (in-back m ls z) i

sorted_step : (m : Pair) (ms : List Pair) (z : Pair) → (In z ms → In z (sorted_in ms)) → In z (m ∷ ms) → In z (sorted_in (m ∷ ms))
sorted_step m ms z f (inl e) = in-insert m (sorted_in ms) z (inl e)
sorted_step m ms z f (inr i) = in-insert m (sorted_in ms) z (inr (f i))

pub in-sorted : (ms : List Pair) (z : Pair) → In z ms → In z (sorted_in ms)
in-sorted [] z i = i
in-sorted (m ∷ ms) z i = sorted_step m ms z (in-sorted ms z) i

unsorted_step : (m : Pair) (ms : List Pair) (z : Pair) → (In z (sorted_in ms) → In z ms) → (z ≡ m) ⊎ In z (sorted_in ms) → In z (m ∷ ms)
unsorted_step m ms z f (inl e) = inl e
unsorted_step m ms z f (inr i) = inr (f i)

pub sorted-in : (ms : List Pair) (z : Pair) → In z (sorted_in ms) → In z ms
sorted-in [] z i = i
sorted-in (m ∷ ms) z i = unsorted_step m ms z (sorted-in ms z) (in-back m (sorted_in ms) z i)

-- ---- what is sorted in stands in strict order

abbrev pub Apart : List ℕ → List Pair → Type 0
Apart k ms = (z : Pair) → In z ms → bytes_eq k z.0 ≡ false

apart_step : (b : Bool) (k : List ℕ) (m : Pair) (ms : List Pair) (z : Pair) → bytes_eq k m.0 ≡ b → (if b then Some m.1 else find_member k ms) ≡ None → (find_member k ms ≡ None → In z ms → bytes_eq k z.0 ≡ false) → In z (m ∷ ms) → bytes_eq k z.0 ≡ false
apart_step true k m ms z e h next i = some_none m.1 h
apart_step false k m ms z e h next (inl same) = ap (λ (y : Pair). bytes_eq k y.0) same ∙ e
apart_step false k m ms z e h next (inr i) = next h i

pub apart-find : (k : List ℕ) (ms : List Pair) → find_member k ms ≡ None → Apart k ms
apart-find k [] h z i = absurd i
apart-find k (m ∷ ms) h z i = apart_step (bytes_eq k m.0) k m ms z refl h (λ g. apart-find k ms g z) i

above_step : (b : Bool) (k : List ℕ) (m l : Pair) (ls more : List Pair) → Above k (l ∷ ls) → text_cmp k m.0 ≡ Less → Above k more → Above k (if b then l ∷ more else m ∷ l ∷ ls)
above_step true k m l ls more a lt next = (a.0, next)
above_step false k m l ls more a lt next = (lt, a)

above-insert : (k : List ℕ) (m : Pair) (ls : List Pair) → Above k ls → text_cmp k m.0 ≡ Less → Above k (insert_pair m ls)
above-insert k m [] a lt = (lt, tt)
above-insert k m (l ∷ ls) a lt = above_step (is_gt (text_cmp m.0 l.0)) k m l ls (insert_pair m ls) a lt (above-insert k m ls a.1 lt)

pub above-chain : (k l : List ℕ) (ls : List Pair) → text_cmp k l ≡ Less → Above l ls → Above k ls
above-chain k l [] lt a = tt
above-chain k l (m ∷ ls) lt a = (nat_list_cmp_total.trans k l m.0 lt a.0, above-chain k l ls lt a.1)

greater_back : (o : Ordering) → is_gt o ≡ true → ordering_reverse o ≡ Less
greater_back Less h = wrong (sym h)
greater_back Equal h = wrong (sym h)
greater_back Greater h = refl

less_left : (o : Ordering) → is_gt o ≡ false → is_eq o ≡ false → o ≡ Less
less_left Less h g = refl
less_left Equal h g = wrong g
less_left Greater h g = wrong h

rising_step : (b : Bool) (m l : Pair) (ls more : List Pair) → is_gt (text_cmp m.0 l.0) ≡ b → bytes_eq m.0 l.0 ≡ false → Rising (l ∷ ls) → Rising more → (text_cmp l.0 m.0 ≡ Less → Above l.0 more) → Rising (if b then l ∷ more else m ∷ l ∷ ls)
rising_step true m l ls more e other r next above = (above (nat_list_cmp_total.antisymm l.0 m.0 ∙ greater_back (text_cmp m.0 l.0) e), next)
rising_step false m l ls more e other r next above =
    let lt : text_cmp m.0 l.0 ≡ Less = less_left (text_cmp m.0 l.0) e (is_eq-slice_cmp m.0 l.0 ∙ other) in
    ((lt, above-chain m.0 l.0 ls lt r.0), r)

rising-insert : (m : Pair) (ls : List Pair) → Apart m.0 ls → Rising ls → Rising (insert_pair m ls)
rising-insert m [] apart r = (tt, tt)
rising-insert m (l ∷ ls) apart r =
    rising_step (is_gt (text_cmp m.0 l.0)) m l ls (insert_pair m ls) refl (apart l (inl refl)) r (rising-insert m ls (λ z i. apart z (inr i)) r.1) (λ lt. above-insert l.0 m ls r.0 lt)

pub rising-sorted : (ms : List Pair) → HasDistinctKeys ms → Rising (sorted_in ms)
rising-sorted [] h = tt
rising-sorted (m ∷ ms) h = rising-insert m (sorted_in ms) (λ z i. apart-find m.0 ms h.0 z (sorted-in ms z i)) (rising-sorted ms h.1)

-- ---- what a sort leaves stands in strict order, where no key stands twice

abbrev hit : List ℕ → Pair → ℕ
hit k m = if bytes_eq k m.0 then 1 else 0

none_step : (b : Bool) (k : List ℕ) (m : Pair) (ms : List Pair) → (if b then Some m.1 else find_member k ms) ≡ None → (find_member k ms ≡ None → sum_by (hit k) ms ≡ 0) → (if b then 1 else 0) + sum_by (hit k) ms ≡ 0
none_step true k m ms h next = some_none m.1 h
none_step false k m ms h next = omega (arith, next h)

no_hits : (k : List ℕ) (ms : List Pair) → find_member k ms ≡ None → sum_by (hit k) ms ≡ 0
no_hits k [] h = refl
no_hits k (m ∷ ms) h = sum_by-cons (hit k) m ms ∙ none_step (bytes_eq k m.0) k m ms h (no_hits k ms)

one_step : (b : Bool) (k : List ℕ) (m : Pair) (ms : List Pair) → bytes_eq k m.0 ≡ b → find_member m.0 ms ≡ None → sum_by (hit k) ms ≤ 1 → (if b then 1 else 0) + sum_by (hit k) ms ≤ 1
one_step true k m ms e h next =
    let same : k ≡ m.0 = (bytes_eq-Decides k m.0).0 e in
    omega (arith, no_hits k ms (subst (λ q. find_member q ms ≡ None) (sym same) h))
one_step false k m ms e h next = omega arith

one_hit : (k : List ℕ) (ms : List Pair) → HasDistinctKeys ms → sum_by (hit k) ms ≤ 1
one_hit k [] h = omega arith
one_hit k (m ∷ ms) h = omega (arith, sum_by-cons (hit k) m ms, one_step (bytes_eq k m.0) k m ms refl h.0 (one_hit k ms h.1))

abbrev key_lt : Pair → Pair → Bool
key_lt x y = is_lt (text_cmp x.0 y.0)

key_lt-order : IsStrictWeakOrder key_lt
key_lt-order = ranks_by nat_list_cmp_total (λ (m : Pair). m.0)

missed : (b : Bool) (n : ℕ) → (if b then 1 else 0) + n ≡ 0 → (b ≡ false) × (n ≡ 0)
missed true n h = absurd (omega arith)
missed false n h = (refl, omega arith)

above-order : (k : List ℕ) (ms : List Pair) → ((j : ℕ) (d : Pair) → j < length ms → is_lt (text_cmp (get_or ms j d).0 k) ≡ false) → sum_by (hit k) ms ≡ 0 → Above k ms
above-order k [] up none = tt
above-order k (m ∷ ms) up none =
    let each = missed (bytes_eq k m.0) (sum_by (hit k) ms) (sym (sum_by-cons (hit k) m ms) ∙ none) in
    (below k m.0 (up 0 m (omega arith)) each.0, above-order k ms (λ j d lt. up (suc j) d (omega arith)) each.1)

found_first : (b : Bool) (n : ℕ) → b ≡ true → (if b then 1 else 0) + n ≤ 1 → n ≡ 0
found_first true n e h = omega arith
found_first false n e h = wrong (sym e)

order-tail : (m : Pair) (ms : List Pair) → IsSortedBy key_lt (m ∷ ms) → IsSortedBy key_lt ms
order-tail m ms up k d l h =
    let e : suc k + 1 ≡ suc (k + 1) = omega arith in
    subst (λ n. key_lt (get_or (m ∷ ms) n d) (get_or ms k d) ≡ false) e (up (suc k) d (omega arith) (omega arith))

rising-order : (ms : List Pair) → IsSortedBy key_lt ms → ((k : List ℕ) → sum_by (hit k) ms ≤ 1) → Rising ms
rising-order [] up one = tt
rising-order (m ∷ ms) up one =
    let first : (if bytes_eq m.0 m.0 then 1 else 0) + sum_by (hit m.0) ms ≤ 1 = omega (arith, sum_by-cons (hit m.0) m ms, one m.0) in
    let none = found_first (bytes_eq m.0 m.0) (sum_by (hit m.0) ms) ((bytes_eq-Decides m.0 m.0).1 refl) first in (
      above-order m.0 ms (λ j d lt. sorted_far key_lt key_lt-order (m ∷ ms) up 0 (suc j) d (omega arith) (omega arith)) none,
      rising-order ms (order-tail m ms up) (λ k. omega (arith, sum_by-cons (hit k) m ms, one k)),
    )

mapped-order : (g : spec.Json → spec.Json) (xs : List (Bor (List ℕ × Json))) → AreInOrder xs → IsSortedBy key_lt (map (pair_by g) xs)
mapped-order g [] up k e l h = absurd (omega arith)
mapped-order g (x ∷ xs) up k e l h =
    let size : length (map (pair_by g) (x ∷ xs)) ≡ length (x ∷ xs) = length-map (x ∷ xs) (pair_by g) in
    let next : k + 1 < length (x ∷ xs) = omega (arith, size, h) in
    let here : k < length (x ∷ xs) = omega (arith, next) in
    (λ i. key_lt (get_or-map (pair_by g) (x ∷ xs) (k + 1) x e next i) (get_or-map (pair_by g) (x ∷ xs) k x e here i)) ∙ up k x l next

-- ---- the members of a list and of one in another order

in-get_or : (ms : List Pair) (j : ℕ) (d : Pair) → j < length ms → In (get_or ms j d) ms
in-get_or [] j d lt = absurd (omega arith)
in-get_or (m ∷ ms) zero d lt = inl refl
in-get_or (m ∷ ms) (suc j) d lt = inr (in-get_or ms j d (omega arith))

all-in : (P : Pair → Type 0) (ms : List Pair) (z : Pair) → All P ms → In z ms → P z
all-in P [] z h i = absurd i
all-in P (m ∷ ms) z h (inl e) = subst P (sym e) (h 0 m (omega arith))
all-in P (m ∷ ms) z h (inr i) = all-in P ms z (λ j d lt. h (suc j) d (omega arith)) i

in-permutation : (xs ys : List Pair) → IsPermutation xs ys → (z : Pair) → In z ys → In z xs
in-permutation xs ys h z i = all-in (λ w. In w xs) ys z (All-permutation (λ w. In w xs) xs ys h (in-get_or xs)) i

find_by_step : (g : spec.Json → spec.Json) (b : Bool) (m : Pair) (o p : Option spec.Json) → (if b then Some m.1 else o) ≡ None → (o ≡ None → p ≡ None) → (if b then Some (g m.1) else p) ≡ None
find_by_step g true m o p h next = some_none m.1 h
find_by_step g false m o p h next = next h

find-by : (g : spec.Json → spec.Json) (k : List ℕ) (ms : List Pair) → find_member k ms ≡ None → find_member k (map (value_by g) ms) ≡ None
find-by g k [] h = refl
find-by g k (m ∷ ms) h = find_by_step g (bytes_eq k m.0) m (find_member k ms) (find_member k (map (value_by g) ms)) h (find-by g k ms)

distinct-by : (g : spec.Json → spec.Json) (ms : List Pair) → HasDistinctKeys ms → HasDistinctKeys (map (value_by g) ms)
distinct-by g [] h = tt
distinct-by g (m ∷ ms) h = (find-by g m.0 ms h.0, distinct-by g ms h.1)

referents-by : (g : spec.Json → spec.Json) (xs : List (Bor (List ℕ × Json))) → map (pair_by g) xs ≡ map (value_by g) (pairs (map (λ b. b.now) xs))
referents-by g [] = refl
referents-by g (x ∷ xs) = ap (λ ms. pair_by g x ∷ ms) (referents-by g xs)

-- the members of an object in the order of their keys, with what g makes of their values, are those sorted in one by one
sorted-in_order : (g : spec.Json → spec.Json) (list : List (List ℕ × Json)) (refs xs : List (Bor (List ℕ × Json))) → map (λ b. b.now) refs ≡ list → IsPermutation refs xs → AreInOrder xs → HasDistinctKeys (pairs list) → map (pair_by g) xs ≡ sorted_in (map (value_by g) (pairs list))
sorted-in_order g list refs xs these moved up distinct =
    let values = map (value_by g) (pairs list) in
    let placed = map (pair_by g) xs in
    let start : map (pair_by g) refs ≡ values = referents-by g refs ∙ ap (λ ms. map (value_by g) (pairs ms)) these in
    let moves : IsPermutation values placed = subst (λ ys. IsPermutation ys placed) start (IsPermutation-map (pair_by g) refs xs moved) in
    let apart : HasDistinctKeys values = distinct-by g (pairs list) distinct in
    let once : (k : List ℕ) → sum_by (hit k) placed ≤ 1 = λ k. omega (arith, one_hit k values apart, sum_by-IsPermutation (hit k) values placed moves) in
    one_order placed (sorted_in values) (rising-order placed (mapped-order g xs up) once) (rising-sorted values apart)
    (λ z i. in-sorted values z (in-permutation values placed moves z i))
    (λ z i. in-permutation placed values (IsPermutation-sym values placed moves) z (sorted-in values z i))

-- they are those that the definition arranges
pub placed-in_order : (list : List (List ℕ × Json)) (refs xs : List (Bor (List ℕ × Json))) → map (λ b. b.now) refs ≡ list → IsPermutation refs xs → AreInOrder xs → HasDistinctKeys (pairs list) → placed xs ≡ arranged_members (members_of (pairs list))
placed-in_order list refs xs these moved up distinct =
    ap members_of (sorted-in_order arranged list refs xs these moved up distinct) ∙ sym (arranged-members (pairs list))

in_order-sorted : (ms : List Pair) → in_key_order ms ≡ members_of (sorted_in ms)
in_order-sorted [] = refl
in_order-sorted (m ∷ ms) = ap (insert_member m.0 m.1) (in_order-sorted ms) ∙ insert-members m (sorted_in ms)

map-itself : (ms : List Pair) → map (value_by (λ j. j)) ms ≡ ms
map-itself [] = refl
map-itself (m ∷ ms) = ap (λ ns. m ∷ ns) (map-itself ms)

-- and with their values as they are, those of the definition's order of keys
pub in_key_order_lem : (list : List (List ℕ × Json)) (refs xs : List (Bor (List ℕ × Json))) → map (λ b. b.now) refs ≡ list → IsPermutation refs xs → AreInOrder xs → HasDistinctKeys (pairs list) → members_of (map (pair_by (λ j. j)) xs) ≡ in_key_order (pairs list)
in_key_order_lem list refs xs these moved up distinct =
    ap members_of (sorted-in_order (λ j. j) list refs xs these moved up distinct)
    ∙ ap (λ ms. members_of (sorted_in ms)) (map-itself (pairs list)) ∙ sym (in_order-sorted (pairs list))
