-- Two lists that are compared item by item, the front of a list first.
use Rattle.std.proofs.Common.{◌≡◌, ◌∙◌, ℕ, zero, suc, ◌+◌, ◌<◌, ◌≤◌, min, List, [], ◌∷◌, length, get_or, drop, map, refl, sym, true, false, Ordering, arith}
use Rattle.std.specs.Ordering.{nat_cmp, ordering_then, is_ne}
use Rattle.std.specs.declared.cmp.Ordering.TheVariants.{Less, Equal, Greater}
use Rattle.std.proofs.lemmas.Bool.Decides.{nat_tests}
use Rattle.std.proofs.lemmas.List.{drop_more}
use Rattle.text_spec.proofs.of_plain_laws.Booleans.{no_truth}
pub use Rattle.text_spec.proofs.of_plain_laws.Orderings.{then_equal}
use Rattle.text_spec.specs.Json.{items_of, members_of}
use Rattle.text_spec.specs.Compact.{text_cmp, arranged_items}
use Rattle.text_spec.specs.Order.{order, items_order, members_order}
use Rattle.json_tree.specs.declared.tree.Json.{Json}
use Rattle.json_tree.specs.NextMember.{arranged_pair, rises}
use Rattle.json_tree.specs.Tree.{json_of, jsons, pairs}

pub then_then : (o p q : Ordering) → ordering_then o (ordering_then p q) ≡ ordering_then (ordering_then o p) q
then_then Less p q = refl
then_then Equal p q = refl
then_then Greater p q = refl

-- what tells two apart is the answer
pub unequal : (o p : Ordering) → is_ne o ≡ true → ordering_then o p ≡ o
unequal Less p h = refl
unequal Equal p h = no_truth h
unequal Greater p h = refl

pub equal : (o p : Ordering) → is_ne o ≡ false → ordering_then o p ≡ p
equal Less p h = no_truth (sym h)
equal Equal p h = refl
equal Greater p h = no_truth (sym h)

pub first_equal : (o p : Ordering) → is_ne (ordering_then o p) ≡ false → o ≡ Equal
first_equal Less p h = no_truth (sym h)
first_equal Equal p h = refl
first_equal Greater p h = no_truth (sym h)

fewer : (n : ℕ) → nat_cmp 0 (suc n) ≡ Less
fewer n = grind (arith, nat_tests)

more : (n : ℕ) → nat_cmp (suc n) 0 ≡ Greater
more n = grind (arith, nat_tests)

counts : (m n : ℕ) → nat_cmp m n ≡ nat_cmp (suc m) (suc n)
counts m n = grind (arith, nat_tests)

-- R compares two items, and F the lists
record IsListOrder {X : Type 0} (R : X → X → Ordering) (F : List X → List X → Ordering) : Type 0 where
  none : F [] [] ≡ Equal
  front : (y : X) (ys : List X) → F [] (y ∷ ys) ≡ Less
  back : (x : X) (xs : List X) → F (x ∷ xs) [] ≡ Greater
  each : (x y : X) (xs ys : List X) → F (x ∷ xs) (y ∷ ys) ≡ ordering_then (R x y) (F xs ys)

module _ {X : Type 0} (R : X → X → Ordering) (F : List X → List X → Ordering) (is : IsListOrder R F) where
  list_next : (xs ys : List X) (i : ℕ) (x y : X) → i < length xs → i < length ys → F (drop i xs) (drop i ys) ≡ ordering_then (R (get_or xs i x) (get_or ys i y)) (F (drop (i + 1) xs) (drop (i + 1) ys))
  list_next xs ys i x y h g =
      (λ j. F (drop_more xs i x h j) (drop_more ys i y g j)) ∙ is.each (get_or xs i x) (get_or ys i y) (drop (i + 1) xs) (drop (i + 1) ys)

  list_end : (xs ys : List X) (i : ℕ) → i ≡ min (length xs) (length ys) → F (drop i xs) (drop i ys) ≡ nat_cmp (length xs) (length ys)
  list_end [] [] zero h = is.none
  list_end [] (y ∷ ys) zero h = is.front y ys ∙ sym (fewer (length ys))
  list_end (x ∷ xs) [] zero h = is.back x xs ∙ sym (more (length xs))
  list_end (x ∷ xs) (y ∷ ys) zero h = absurd (omega (arith, h))
  list_end [] ys (suc i) h = absurd (omega (arith, h))
  list_end (x ∷ xs) [] (suc i) h = absurd (omega (arith, h))
  list_end (x ∷ xs) (y ∷ ys) (suc i) h = list_end xs ys i (omega (arith, h)) ∙ counts (length xs) (length ys)

-- ---- items

abbrev pub items_by : List Json → List Json → Ordering
items_by js ks = items_order (arranged_items (items_of (jsons js))) (arranged_items (items_of (jsons ks)))

items_list_order : IsListOrder (λ (j k : Json). order (json_of j) (json_of k)) items_by
items_list_order = record { none = refl; front = λ y ys. refl; back = λ x xs. refl; each = λ x y xs ys. refl }

pub items_next : (js ks : List Json) (i : ℕ) (x y : Json) → i < length js → i < length ks → items_by (drop i js) (drop i ks) ≡ ordering_then (order (json_of (get_or js i x)) (json_of (get_or ks i y))) (items_by (drop (i + 1) js) (drop (i + 1) ks))
items_next = list_next (λ (j k : Json). order (json_of j) (json_of k)) items_by items_list_order

pub items_end : (js ks : List Json) (i : ℕ) → i ≡ min (length js) (length ks) → items_by (drop i js) (drop i ks) ≡ nat_cmp (length js) (length ks)
items_end = list_end (λ (j k : Json). order (json_of j) (json_of k)) items_by items_list_order

-- ---- members

abbrev pub member_by : List ℕ × Json → List ℕ × Json → Ordering
member_by m n = ordering_then (text_cmp m.0 n.0) (order (json_of m.1) (json_of n.1))

abbrev pub members_by : List (List ℕ × Json) → List (List ℕ × Json) → Ordering
members_by ms ns = members_order (members_of (map arranged_pair (pairs ms))) (members_of (map arranged_pair (pairs ns)))

members_list_order : IsListOrder member_by members_by
members_list_order = record {
  none = refl;
  front = λ y ys. refl;
  back = λ x xs. refl;
  each = λ m n ms ns. then_then (text_cmp m.0 n.0) (order (json_of m.1) (json_of n.1)) (members_by ms ns);
}

pub members_next : (ms ns : List (List ℕ × Json)) (i : ℕ) (x y : List ℕ × Json) → i < length ms → i < length ns → members_by (drop i ms) (drop i ns) ≡ ordering_then (member_by (get_or ms i x) (get_or ns i y)) (members_by (drop (i + 1) ms) (drop (i + 1) ns))
members_next = list_next member_by members_by members_list_order

pub members_end : (ms ns : List (List ℕ × Json)) (i : ℕ) → i ≡ min (length ms) (length ns) → members_by (drop i ms) (drop i ns) ≡ nat_cmp (length ms) (length ns)
members_end = list_end member_by members_by members_list_order

-- ---- keys that rise

pub rises_end : (ms : List (List ℕ × Json)) (i : ℕ) → length ms ≤ i + 1 → rises (pairs (drop i ms)) ≡ true
rises_end [] zero h = refl
rises_end [] (suc i) h = refl
rises_end (m ∷ []) zero h = refl
rises_end (m ∷ n ∷ ms) zero h = absurd (omega (arith, h))
rises_end (m ∷ ms) (suc i) h = rises_end ms i (omega (arith, h))
