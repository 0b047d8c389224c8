-- Members of an object: what is found under a key, and what an insertion in order keeps.
use Rattle.std.proofs.Common.{◌≡◌, ◌↔◌, ℕ, zero, suc, ◌+◌, ◌<◌, ◌≤◌, List, [], ◌∷◌, length, get_or, Bool, true, false, if◌then◌else◌, Option, Some, None, IsPermutation, refl, sym, ap, ◌∙◌, subst, arith, true≢false}
use Rattle.std.proofs.lemmas.Cmp.{nat_list_cmp_total, tied_itself, upto}
use Rattle.std.proofs.lemmas.List.Sorted.{sum_by-IsPermutation, Contains-permutation, IsPermutation-sym}
use Rattle.std.proofs.lemmas.List.Sums.{sum_by-cons}
use Rattle.std.proofs.lemmas.Map.Text.{is_eq-slice_cmp}
use Rattle.std.proofs.lemmas.Option.{none-some, same_Some}
use Rattle.std.proofs.lemmas.Slice.Eq.{bytes_eq-Decides}
use Rattle.std.specs.declared.cmp.Ordering.{Ordering}
use Rattle.std.specs.declared.cmp.Ordering.TheVariants.{Less, Equal, Greater}
use Rattle.std.specs.List.{Contains, sum_by}
use Rattle.std.specs.Ordering.{ordering_reverse, is_eq, is_gt}
use Rattle.std.specs.Str.{bytes_eq}
use Rattle.json_machine.proofs.of_plain_laws.Lists.{bytes_eq-itself}
use Rattle.json_machine.proofs.of_text_spec.JsonLemmas.{missed}
use Rattle.json_machine.specs.text_spec.Json.{Json, Members, no_members, member, members_list, find_member, HasDistinctKeys}
use Rattle.json_machine.specs.text_spec.Compact.{text_cmp, insert_member}
use Rattle.json_machine.proofs.of_text_spec.TextOrder.{text_tied}

-- ---- keys

pub text_turned : (k l : List ℕ) → text_cmp k l ≡ ordering_reverse (text_cmp l k)
text_turned k l = nat_list_cmp_total.antisymm k l

below_apart : (k l : List ℕ) → text_cmp k l ≡ Less → bytes_eq k l ≡ false
below_apart k l e = sym (is_eq-slice_cmp k l) ∙ ap is_eq e

pub above_apart : (k l : List ℕ) → text_cmp k l ≡ Greater → bytes_eq k l ≡ false
above_apart k l e = sym (is_eq-slice_cmp k l) ∙ ap is_eq e

-- ---- what is found

-- a member put in order is found before any other of its key
find_step : (b c d : Bool) (k l m : List ℕ) (j x : Json) (ms new : Members) → is_gt (text_cmp l m) ≡ b → bytes_eq k m ≡ c → bytes_eq k l ≡ d → find_member k (members_list new) ≡ (if d then Some j else find_member k (members_list ms)) →
    find_member k (members_list (if b then member m x new else member l j (member m x ms))) ≡ (if d then Some j else (if c then Some x else find_member k (members_list ms)))
find_step false c d k l m j x ms new g p q next = rw (p, q) refl
find_step true false d k l m j x ms new g p q next = rw p next
find_step true true false k l m j x ms new g p q next = rw p refl
find_step true true true k l m j x ms new g p q next =
    let e : l ≡ m = sym ((bytes_eq-Decides k l).0 q) ∙ (bytes_eq-Decides k m).0 p in
    let tied : text_cmp l m ≡ Equal = rw e (tied_itself nat_list_cmp_total m) in
    let none : is_gt (text_cmp l m) ≡ false = ap is_gt tied in
    cc

pub find-insert : (k l : List ℕ) (j : Json) (ms : Members) → find_member k (members_list (insert_member l j ms)) ≡ (if bytes_eq k l then Some j else find_member k (members_list ms))
find-insert k l j no_members = refl
find-insert k l j (member m x ms) = find_step _ _ _ k l m j x ms (insert_member l j ms) refl refl refl (find-insert k l j ms)

-- ---- insertion in either order

above : (b : Bool) (k l m : List ℕ) → is_gt (text_cmp k l) ≡ b → is_gt (text_cmp k m) ≡ true → is_gt (text_cmp l m) ≡ false → is_gt (text_cmp k l) ≡ true
above true k l m e h g = e
above false k l m e h g = absurd (true≢false (sym h ∙ upto nat_list_cmp_total k l m e g))

-- in front of members that are not below
insert_in_front : (o : Ordering) (k l : List ℕ) (i j : Json) (ms : Members) → text_cmp k l ≡ o → bytes_eq k l ≡ false → insert_member k i ms ≡ member k i ms → insert_member l j ms ≡ member l j ms →
    insert_member k i (member l j ms) ≡ insert_member l j (member k i ms)
insert_in_front Less k l i j ms e h p q = rw (e, text_turned l k, e, q) refl
insert_in_front Equal k l i j ms e h p q = absurd (true≢false (sym ((bytes_eq-Decides k l).1 (text_tied k l e)) ∙ h))
insert_in_front Greater k l i j ms e h p q = rw (e, text_turned l k, e, p) refl

-- a comes of k against m, and b of l against m
commute_step : (a b : Bool) (k l m : List ℕ) (i j x : Json) (ms : Members) → is_gt (text_cmp k m) ≡ a → is_gt (text_cmp l m) ≡ b → bytes_eq k l ≡ false →
    insert_member k i (insert_member l j ms) ≡ insert_member l j (insert_member k i ms) →
    insert_member k i (insert_member l j (member m x ms)) ≡ insert_member l j (insert_member k i (member m x ms))
commute_step true true k l m i j x ms p q h next = rw (q, p, q) (ap (member m x) next)
commute_step true false k l m i j x ms p q h next = rw (q, p, above _ k l m refl p q, q) refl
commute_step false true k l m i j x ms p q h next = rw (q, p, above _ l k m refl q p, q) refl
commute_step false false k l m i j x ms p q h next =
    let here : insert_member k i (member m x ms) ≡ member k i (member m x ms) = rw p refl in
    let there : insert_member l j (member m x ms) ≡ member l j (member m x ms) = rw q refl in
    ap (insert_member k i) there ∙ insert_in_front _ k l i j (member m x ms) refl h here there ∙ ap (insert_member l j) (sym here)

pub insert-insert : (k l : List ℕ) (i j : Json) (ms : Members) → bytes_eq k l ≡ false → insert_member k i (insert_member l j ms) ≡ insert_member l j (insert_member k i ms)
insert-insert k l i j no_members h = insert_in_front _ k l i j no_members refl h refl refl
insert-insert k l i j (member m x ms) h = commute_step _ _ k l m i j x ms refl refl h (insert-insert k l i j ms h)

-- ---- sorted members

-- the key is below each of these
abbrev pub Leads : List ℕ → Members → Type 0
Leads k no_members = Unit {0}
Leads k (member l j ms) = (text_cmp k l ≡ Less) × Leads k ms

abbrev pub AreSorted : Members → Type 0
AreSorted no_members = Unit {0}
AreSorted (member k j ms) = Leads k ms × AreSorted ms

Leads-below : (k l : List ℕ) (ms : Members) → text_cmp k l ≡ Less → Leads l ms → Leads k ms
Leads-below k l no_members e h = tt
Leads-below k l (member m x ms) e h = (nat_list_cmp_total.trans k l m e h.0, Leads-below k l ms e h.1)

Leads-absent : (k : List ℕ) (ms : Members) → Leads k ms → find_member k (members_list ms) ≡ None
Leads-absent k no_members h = refl
Leads-absent k (member l j ms) h = rw (below_apart k l h.0) (Leads-absent k ms h.1)

Leads-insert : (k l : List ℕ) (j : Json) (ms : Members) → text_cmp k l ≡ Less → Leads k ms → Leads k (insert_member l j ms)
Leads-insert k l j no_members e h = (e, tt)
Leads-insert k l j (member m x ms) e h = leads (is_gt (text_cmp l m)) (member m x ms) h (Leads-insert k l j ms e h.1)
  where
    leads : (b : Bool) (all : Members) → Leads k (member m x ms) → Leads k (insert_member l j ms) → Leads k (if b then member m x (insert_member l j ms) else member l j (member m x ms))
    leads true all h n = (h.0, n)
    leads false all h n = (e, h)

sorted_step : (o : Ordering) (l m : List ℕ) (j x : Json) (ms : Members) → text_cmp l m ≡ o → bytes_eq l m ≡ false → AreSorted (member m x ms) → AreSorted (insert_member l j ms) → AreSorted (insert_member l j (member m x ms))
sorted_step Less l m j x ms e d h n = rw e ((e, Leads-below l m ms e h.0), h)
sorted_step Equal l m j x ms e d h n = absurd (true≢false (sym ((bytes_eq-Decides l m).1 (text_tied l m e)) ∙ d))
sorted_step Greater l m j x ms e d h n = rw e (Leads-insert m l j ms (text_turned m l ∙ ap ordering_reverse e) h.0, n)

-- the key is new
pub AreSorted-insert : (l : List ℕ) (j : Json) (ms : Members) → find_member l (members_list ms) ≡ None → AreSorted ms → AreSorted (insert_member l j ms)
AreSorted-insert l j no_members none h = (tt, tt)
AreSorted-insert l j (member m x ms) none h =
    let new = missed _ l m x (members_list ms) refl none in
    sorted_step _ l m j x ms refl new.0 h (AreSorted-insert l j ms new.1 h.1)

pub AreSorted-distinct : (ms : Members) → AreSorted ms → HasDistinctKeys (members_list ms)
AreSorted-distinct no_members h = tt
AreSorted-distinct (member k j ms) h = (Leads-absent k ms h.0, AreSorted-distinct ms h.1)

-- ---- sorted members are told by what is found

-- under each key the same is found
pub record FindAlike (ms ns : List (List ℕ × Json)) : Type 0 where
  pub finds : (k : List ℕ) → find_member k ms ≡ find_member k ns

pub found_first : (k : List ℕ) (j : Json) (ms : List (List ℕ × Json)) → find_member k ((k, j) ∷ ms) ≡ Some j
found_first k j ms = rw (bytes_eq-itself k) refl

rest_step : (b : Bool) (q k : List ℕ) (i j : Json) (ms ns : Members) → bytes_eq q k ≡ b → Leads k ms → Leads k ns → find_member q ((k, i) ∷ members_list ms) ≡ find_member q ((k, j) ∷ members_list ns) → find_member q (members_list ms) ≡ find_member q (members_list ns)
rest_step true q k i j ms ns e h g f = let is = (bytes_eq-Decides q k).0 e in rw is (Leads-absent k ms h ∙ sym (Leads-absent k ns g))
rest_step false q k i j ms ns e h g f = rw e at f

-- with one first key
one_key : (k : List ℕ) (i j : Json) (ms ns : Members) → Leads k ms → Leads k ns → FindAlike ((k, i) ∷ members_list ms) ((k, j) ∷ members_list ns) → (i ≡ j) × FindAlike (members_list ms) (members_list ns)
one_key k i j ms ns h g f = (
  same_Some i j (sym (found_first k i (members_list ms)) ∙ f.finds k ∙ found_first k j (members_list ns)),
  record { finds = λ q. rest_step _ q k i j ms ns refl h g (f.finds q) },
)

-- one that is below is found on one side alone
too_low : (k l : List ℕ) (i j : Json) (ms ns : Members) → text_cmp k l ≡ Less → Leads l ns → find_member k ((k, i) ∷ members_list ms) ≡ find_member k ((l, j) ∷ members_list ns) → ⊥
too_low k l i j ms ns e h f = none-some i (sym (Leads-absent k (member l j ns) (e, Leads-below k l ns e h)) ∙ sym f ∙ found_first k i (members_list ms))

first_told : (o : Ordering) (k l : List ℕ) (i j : Json) (ms ns : Members) → text_cmp k l ≡ o → AreSorted (member k i ms) → AreSorted (member l j ns) → FindAlike ((k, i) ∷ members_list ms) ((l, j) ∷ members_list ns) → (FindAlike (members_list ms) (members_list ns) → ms ≡ ns) → member k i ms ≡ member l j ns
first_told Less k l i j ms ns e h g f next = absurd (too_low k l i j ms ns e g.0 (f.finds k))
first_told Greater k l i j ms ns e h g f next = absurd (too_low l k j i ns ms (text_turned l k ∙ ap ordering_reverse e) h.0 (sym (f.finds l)))
first_told Equal k l i j ms ns e h g f next =
    let is = text_tied k l e in
    let parts = one_key l i j ms ns (subst (λ q. Leads q ms) is h.0) g.0 (subst (λ q. FindAlike ((q, i) ∷ members_list ms) ((l, j) ∷ members_list ns)) is f) in
    λ x. member (is x) (parts.0 x) (next parts.1 x)

pub AreSorted-told : (ms ns : Members) → AreSorted ms → AreSorted ns → FindAlike (members_list ms) (members_list ns) → ms ≡ ns
AreSorted-told no_members no_members h g f = refl
AreSorted-told no_members (member l j ns) h g f = absurd (none-some j (f.finds l ∙ found_first l j (members_list ns)))
AreSorted-told (member k i ms) no_members h g f = absurd (none-some i (sym (f.finds k) ∙ found_first k i (members_list ms)))
AreSorted-told (member k i ms) (member l j ns) h g f = first_told _ k l i j ms ns refl h g f (AreSorted-told ms ns h.1 g.1)

-- ---- members in another order

found_itself : (m : List ℕ × Json) (ms : List (List ℕ × Json)) → Contains (m ∷ ms) m
found_itself m ms = (0, omega arith, refl)

found_step : (b : Bool) (k : List ℕ) (j : Json) (m : List ℕ × Json) (ms : List (List ℕ × Json)) → bytes_eq k m.0 ≡ b → (if b then Some m.1 else find_member k ms) ≡ Some j → (find_member k ms ≡ Some j → Contains ms (k, j)) → Contains (m ∷ ms) (k, j)
found_step true k j m ms e h next =
    let is : m ≡ (k, j) = λ i. (sym ((bytes_eq-Decides k m.0).0 e) i, same_Some m.1 j h i) in
    (0, omega arith, is)
found_step false k j m ms e h next = let c = next h in (suc c.0, omega (arith, c.1), c.2)

Contains-find : (k : List ℕ) (j : Json) (ms : List (List ℕ × Json)) → find_member k ms ≡ Some j → Contains ms (k, j)
Contains-find k j [] h = absurd (none-some j h)
Contains-find k j (m ∷ ms) h = found_step _ k j m ms refl h (Contains-find k j ms)

pub find_behind : (b : Bool) (k : List ℕ) (j : Json) (m : List ℕ × Json) (ms : List (List ℕ × Json)) → bytes_eq k m.0 ≡ b → find_member m.0 ms ≡ None → find_member k ms ≡ Some j → (if b then Some m.1 else find_member k ms) ≡ Some j
find_behind true k j m ms e none h = absurd (none-some j (sym none ∙ ap (λ q. find_member q ms) (sym ((bytes_eq-Decides k m.0).0 e)) ∙ h))
find_behind false k j m ms e none h = h

find_at : (k : List ℕ) (j : Json) (ms : List (List ℕ × Json)) → HasDistinctKeys ms → (i : ℕ) → i < length ms → get_or ms i (k, j) ≡ (k, j) → find_member k ms ≡ Some j
find_at k j [] d i h e = absurd (omega arith)
find_at k j (m ∷ ms) d zero h e = let key : m.0 ≡ k = ap (λ p. p.0) e in let value : m.1 ≡ j = ap (λ p. p.1) e in rw (key, bytes_eq-itself k) (ap Some value)
find_at k j (m ∷ ms) d (suc i) h e = find_behind _ k j m ms refl d.0 (find_at k j ms d.1 i (omega arith) e)

-- how often the key stands among the members
times : List ℕ → List (List ℕ × Json) → ℕ
times k ms = sum_by (λ m. if bytes_eq k m.0 then 1 else 0) ms

times-cons : (k : List ℕ) (m : List ℕ × Json) (ms : List (List ℕ × Json)) → times k (m ∷ ms) ≡ (if bytes_eq k m.0 then 1 else 0) + times k ms
unfolding times
times-cons k m ms = sum_by-cons (λ (m : List ℕ × Json). if bytes_eq k m.0 then 1 else 0) m ms

times_step : (b : Bool) (k : List ℕ) (m : List ℕ × Json) (ms : List (List ℕ × Json)) → times k (m ∷ ms) ≡ (if b then 1 else 0) + times k ms → ((find_member k ms ≡ None) ↔ (times k ms ≡ 0)) → ((if b then Some m.1 else find_member k ms) ≡ None) ↔ (times k (m ∷ ms) ≡ 0)
times_step true k m ms e next = (λ h. cc, λ h. absurd (omega arith))
times_step false k m ms e next = (λ h. let n = next.0 h in omega arith, λ h. next.1 (omega arith))

absent-times : (k : List ℕ) (ms : List (List ℕ × Json)) → (find_member k ms ≡ None) ↔ (times k ms ≡ 0)
unfolding times
absent-times k [] = (λ h. refl, λ h. refl)
absent-times k (m ∷ ms) = times_step _ k m ms (times-cons k m ms) (absent-times k ms)

distinct_step : (b : Bool) (k : List ℕ) (m : List ℕ × Json) (ms : List (List ℕ × Json)) → bytes_eq k m.0 ≡ b → times k (m ∷ ms) ≡ (if b then 1 else 0) + times k ms → times m.0 ms ≡ 0 → times k ms ≤ 1 → times k (m ∷ ms) ≤ 1
distinct_step true k m ms e s z next = let is = ap (λ q. times q ms) ((bytes_eq-Decides k m.0).0 e) in omega arith
distinct_step false k m ms e s z next = omega arith

distinct-times : (ms : List (List ℕ × Json)) → HasDistinctKeys ms → (k : List ℕ) → times k ms ≤ 1
unfolding times
distinct-times [] d k = omega arith
distinct-times (m ∷ ms) d k = distinct_step _ k m ms refl (times-cons k m ms) ((absent-times m.0 ms).0 d.0) (distinct-times ms d.1 k)

times-distinct : (ms : List (List ℕ × Json)) → ((k : List ℕ) → times k ms ≤ 1) → HasDistinctKeys ms
times-distinct [] h = tt
times-distinct (m ∷ ms) h =
    let once : times m.0 (m ∷ ms) ≡ 1 + times m.0 ms = times-cons m.0 m ms ∙ rw (bytes_eq-itself m.0) refl in
    ((absent-times m.0 ms).1 (omega (arith, h m.0)), times-distinct ms (λ k. omega (arith, h k, times-cons k m ms)))

module _ (ms ns : List (List ℕ × Json)) (moved : IsPermutation ms ns) (d : HasDistinctKeys ms) where
  pub distinct_moved : HasDistinctKeys ns
  unfolding times
  distinct_moved = times-distinct ns (λ k. rw (sum_by-IsPermutation (λ (m : List ℕ × Json). if bytes_eq k m.0 then 1 else 0) ms ns moved) (distinct-times ms d k))

  finds_moved : (k : List ℕ) (j : Json) → find_member k ms ≡ Some j → find_member k ns ≡ Some j
  finds_moved k j h = let c = Contains-permutation ms ns (k, j) moved (Contains-find k j ms h) in find_at k j ns distinct_moved c.0 c.1 c.2

found_alike : (a b : Option Json) → ((j : Json) → a ≡ Some j → b ≡ Some j) → ((j : Json) → b ≡ Some j → a ≡ Some j) → a ≡ b
found_alike None None f g = refl
found_alike None (Some j) f g = g j refl
found_alike (Some j) b f g = sym (f j refl)

pub FindAlike-moved : (ms ns : List (List ℕ × Json)) → IsPermutation ms ns → HasDistinctKeys ms → FindAlike ms ns
FindAlike-moved ms ns moved d = record { finds = λ k. found_alike (find_member k ms) (find_member k ns) (finds_moved ms ns moved d k) (finds_moved ns ms (IsPermutation-sym ms ns moved) (distinct_moved ms ns moved d) k) }
