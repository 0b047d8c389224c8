-- Two lists that are the same item by item, and members that are the same as maps.
use Rattle.std.proofs.Common.{◌≡◌, ◌∙◌, ℕ, zero, suc, ◌+◌, ◌<◌, ◌≤◌, List, [], ◌∷◌, length, get_or, drop, refl, sym, ap, Bool, true, false, ◌&&◌, Option, Some, None, is_some, arith, if◌then◌else◌}
use Rattle.std.specs.Prelude.{IfSome, option_map}
use Rattle.std.specs.Option.{option_map_or}
use Rattle.std.specs.Str.{bytes_eq}
use Rattle.std.proofs.lemmas.List.{drop_more, length-map}
use Rattle.std.proofs.lemmas.Slice.Eq.{bytes_eq-Decides}
use Rattle.text_spec.proofs.of_plain_laws.Booleans.{both_true, true_both, both_ways, no_truth, not_both}
use Rattle.text_spec.proofs.of_plain_laws.Options.{some_none}
use Rattle.text_spec.specs.Json as spec
use Rattle.text_spec.specs.Json.{object, items_of, members_of, find_member, without_member, HasDistinctKeys}
use Rattle.text_spec.specs.Order.{same, same_items, same_members, has_keys}
use Rattle.text_spec.proofs.JsonLemmas.{missed, bytes_eq-symm, members_list-of}
use Rattle.json_tree.specs.declared.tree.Json.{Json}
use Rattle.json_tree.specs.Tree.{json_of, jsons, pair, pairs}
use Rattle.json_tree.specs.Places.{index_of}
use Rattle.json_tree.proofs.ArrangedLaws.{Pair}
use Rattle.json_tree.proofs.PlaceLaws.{find-found, find-absent}

-- ---- items

abbrev pub same_list : List Json → List Json → Bool
same_list js ks = same_items (items_of (jsons js)) (items_of (jsons ks))

pub same_next : (js ks : List Json) (i : ℕ) (x y : Json) → i < length js → i < length ks → same_list (drop i js) (drop i ks) ≡ (same (json_of (get_or js i x)) (json_of (get_or ks i y)) && same_list (drop (i + 1) js) (drop (i + 1) ks))
same_next js ks i x y h g = λ j. same_list (drop_more js i x h j) (drop_more ks i y g j)

pub same_end : (js ks : List Json) (i : ℕ) → length js ≡ length ks → i ≡ length js → same_list (drop i js) (drop i ks) ≡ true
same_end [] [] zero h e = refl
same_end [] [] (suc i) h e = absurd (omega (arith, e))
same_end [] (y ∷ ks) i h e = absurd (omega (arith, h))
same_end (x ∷ js) [] i h e = absurd (omega (arith, h))
same_end (x ∷ js) (y ∷ ks) zero h e = absurd (omega (arith, e))
same_end (x ∷ js) (y ∷ ks) (suc i) h e = same_end js ks i (omega (arith, h)) (omega (arith, e))

no_more : (a b : Bool) → b ≡ false → (a && b) ≡ false
no_more true b h = h
no_more false b h = refl

pub other_length : (js ks : List Json) → ¬ (length js ≡ length ks) → same_list js ks ≡ false
other_length [] [] h = absurd (h refl)
other_length [] (y ∷ ks) h = refl
other_length (x ∷ js) [] h = refl
other_length (x ∷ js) (y ∷ ks) h = no_more (same (json_of x) (json_of y)) (same_list js ks) (other_length js ks (λ e. h (ap suc e)))

-- ---- a member by its place

pub pairs_count : (ms : List (List ℕ × Json)) → length (pairs ms) ≡ length ms
pairs_count ms = length-map ms pair

within_step : (b : Bool) (o : Option ℕ) (n i : ℕ) → (if b then Some 0 else option_map suc o) ≡ Some i → ((a : ℕ) → o ≡ Some a → a < n) → i < suc n
within_step true o n zero h next = omega arith
within_step true o n (suc i) h next = cc
within_step false None n i h next = cc
within_step false (Some a) n zero h next = omega arith
within_step false (Some a) n (suc i) h next = let lt : i < n = next i cc in omega (arith, lt)

place_within : (k : List ℕ) (ms : List Pair) (i : ℕ) → index_of k ms ≡ Some i → i < length ms
place_within k [] i h = cc
place_within k (m ∷ ms) i h = within_step (bytes_eq k m.0) (index_of k ms) (length ms) i h (λ a e. place_within k ms a e)

here_step : (b : Bool) (i : ℕ) (o : Option ℕ) → b ≡ true → i ≡ 0 → (if b then Some 0 else option_map suc o) ≡ Some i
here_step true i o e z = ap Some (sym z)
here_step false i o e z = absurd (both_ways false e refl)

pub found_within : (k : List ℕ) (ms : List (List ℕ × Json)) (o : Option ℕ) → o ≡ index_of k (pairs ms) → IfSome o (λ i. i < length ms)
found_within k ms None h = tt
found_within k ms (Some i) h = omega (arith, place_within k (pairs ms) i (sym h), pairs_count ms)

-- in a list of distinct keys a key stands where it is found
pub key_at : (ms : List (List ℕ × Json)) (i : ℕ) (d : List ℕ × Json) → HasDistinctKeys (pairs ms) → i < length ms → index_of (get_or ms i d).0 (pairs ms) ≡ Some i
key_at [] i d h lt = absurd (omega (arith, lt))
key_at (m ∷ ms) zero d h lt = here_step (bytes_eq m.0 m.0) 0 (index_of m.0 (pairs ms)) ((bytes_eq-Decides m.0 m.0).1 refl) refl
key_at (m ∷ ms) (suc i) d h lt = later_step (bytes_eq k m.0) refl (key_at ms i d h.1 (omega (arith, lt)))
  where
    k : List ℕ
    k = (get_or ms i d).0

    later_step : (b : Bool) → bytes_eq k m.0 ≡ b → index_of k (pairs ms) ≡ Some i → (if b then Some 0 else option_map suc (index_of k (pairs ms))) ≡ Some (suc i)
    later_step false e at = ap (option_map suc) at
    later_step true e at =
        let found : find_member k (pairs ms) ≡ Some (json_of (get_or ms i d).1) = find-found k d ms i at in
        let same_key : k ≡ m.0 = (bytes_eq-Decides k m.0).0 e in
        some_none (json_of (get_or ms i d).1) (sym found ∙ ap (λ q. find_member q (pairs ms)) same_key ∙ h.0)

-- ---- as many members, and each key of one in the other

module _ (k : List ℕ) where
  other_step : (b : Bool) (q : List ℕ) (m : Pair) (ms less : List Pair) → bytes_eq k m.0 ≡ b → bytes_eq q k ≡ false → find_member q less ≡ find_member q ms → find_member q (if b then ms else m ∷ less) ≡ find_member q (m ∷ ms)
  other_step true q m ms less e other next =
      let differ : bytes_eq q m.0 ≡ false = ap (bytes_eq q) (sym ((bytes_eq-Decides k m.0).0 e)) ∙ other in
      rw differ refl
  other_step false q m ms less e other next = ap (λ o. if bytes_eq q m.0 then Some m.1 else o) next

  find-without : (q : List ℕ) (ms : List Pair) → bytes_eq q k ≡ false → find_member q (without_member k ms) ≡ find_member q ms
  find-without q [] other = refl
  find-without q (m ∷ ms) other = other_step (bytes_eq k m.0) q m ms (without_member k ms) refl other (find-without q ms other)

  length_step : (b : Bool) (m : Pair) (ms less : List Pair) → is_some (if b then Some m.1 else find_member k ms) ≡ true → (is_some (find_member k ms) ≡ true → length ms ≡ suc (length less)) → suc (length ms) ≡ suc (length (if b then ms else m ∷ less))
  length_step true m ms less h next = refl
  length_step false m ms less h next = ap suc (next h)

  length-without : (ms : List Pair) → is_some (find_member k ms) ≡ true → length ms ≡ suc (length (without_member k ms))
  length-without [] h = no_truth h
  length-without (m ∷ ms) h = length_step (bytes_eq k m.0) m ms (without_member k ms) h (length-without ms)

  keys-without : (ys ms : List Pair) → find_member k ms ≡ None → has_keys ys ms ≡ true → has_keys (without_member k ys) ms ≡ true
  keys-without ys [] none h = refl
  keys-without ys (m ∷ ms) none h =
      let apart = missed (bytes_eq k m.0) k m.0 m.1 ms refl none in
      let each = both_true (is_some (find_member m.0 ys)) (has_keys ys ms) h in
      true_both (is_some (find_member m.0 (without_member k ys))) (has_keys (without_member k ys) ms)
      (ap is_some (find-without m.0 ys (bytes_eq-symm k m.0 apart.0)) ∙ each.0)
      (keys-without ys ms apart.1 each.1)

one_more_step : (b : Bool) (j : spec.Json) (o : Option spec.Json) → is_some o ≡ true → is_some (if b then Some j else o) ≡ true
one_more_step true j o h = refl
one_more_step false j o h = h

keys-more : (m : Pair) (xs ys : List Pair) → has_keys xs ys ≡ true → has_keys (m ∷ xs) ys ≡ true
keys-more m xs [] h = refl
keys-more m xs (b ∷ ys) h =
    let each = both_true (is_some (find_member b.0 xs)) (has_keys xs ys) h in
    true_both (is_some (find_member b.0 (m ∷ xs))) (has_keys (m ∷ xs) ys)
    (one_more_step (bytes_eq b.0 m.0) m.1 (find_member b.0 xs) each.0) (keys-more m xs ys each.1)

known_step : (b : Bool) (j : spec.Json) (o : Option spec.Json) → b ≡ true → is_some (if b then Some j else o) ≡ true
known_step true j o e = refl
known_step false j o e = absurd (both_ways false e refl)

back_step : (c : Bool) (m b : Pair) (xs ys less : List Pair) → bytes_eq m.0 b.0 ≡ c → has_keys xs (if c then ys else b ∷ less) ≡ true → (has_keys xs less ≡ true → has_keys (m ∷ xs) ys ≡ true) → has_keys (m ∷ xs) (b ∷ ys) ≡ true
back_step true m b xs ys less e h next =
    true_both (is_some (find_member b.0 (m ∷ xs))) (has_keys (m ∷ xs) ys)
    (known_step (bytes_eq b.0 m.0) m.1 (find_member b.0 xs) ((bytes_eq-Decides b.0 m.0).1 (sym ((bytes_eq-Decides m.0 b.0).0 e))))
    (keys-more m xs ys h)
back_step false m b xs ys less e h next =
    let each = both_true (is_some (find_member b.0 xs)) (has_keys xs less) h in
    true_both (is_some (find_member b.0 (m ∷ xs))) (has_keys (m ∷ xs) ys)
    (one_more_step (bytes_eq b.0 m.0) m.1 (find_member b.0 xs) each.0) (next each.1)

keys-back : (m : Pair) (xs ys : List Pair) → has_keys xs (without_member m.0 ys) ≡ true → has_keys (m ∷ xs) ys ≡ true
keys-back m xs [] h = refl
keys-back m xs (b ∷ ys) h = back_step (bytes_eq m.0 b.0) m b xs ys (without_member m.0 ys) refl h (keys-back m xs ys)

-- distinct keys that stand in a list are no more than it has
no_more_keys : (xs ys : List Pair) → HasDistinctKeys xs → has_keys ys xs ≡ true → length xs ≤ length ys
no_more_keys [] ys d h = omega arith
no_more_keys (m ∷ xs) ys d h =
    let each = both_true (is_some (find_member m.0 ys)) (has_keys ys xs) h in
    omega (arith, length-without m.0 ys each.0, no_more_keys xs (without_member m.0 ys) d.1 (keys-without m.0 ys xs d.0 each.1))

-- and where they are as many, they are all of its keys
all_keys : (xs ys : List Pair) → HasDistinctKeys xs → length xs ≡ length ys → has_keys ys xs ≡ true → has_keys xs ys ≡ true
all_keys [] [] d e h = refl
all_keys [] (b ∷ ys) d e h = absurd (omega (arith, e))
all_keys (m ∷ xs) ys d e h =
    let each = both_true (is_some (find_member m.0 ys)) (has_keys ys xs) h in
    let size : length xs ≡ length (without_member m.0 ys) = omega (arith, e, length-without m.0 ys each.0) in
    keys-back m xs ys (all_keys xs (without_member m.0 ys) d.1 size (keys-without m.0 ys xs d.0 each.1))

found_step : (j : spec.Json) (o : Option spec.Json) → option_map_or (same j) o false ≡ true → is_some o ≡ true
found_step j None h = no_truth h
found_step j (Some k) h = refl

keys-same : (xs ys : List Pair) → same_members (members_of xs) ys ≡ true → has_keys ys xs ≡ true
keys-same [] ys h = refl
keys-same (m ∷ xs) ys h =
    let each = both_true (option_map_or (same m.1) (find_member m.0 ys) false) (same_members (members_of xs) ys) h in
    true_both (is_some (find_member m.0 ys)) (has_keys ys xs) (found_step m.1 (find_member m.0 ys) each.0) (keys-same xs ys each.1)

abbrev pub same_maps : List Pair → List Pair → Bool
same_maps xs ys = same_members (members_of xs) ys && has_keys xs ys

length_told : (b : Bool) (xs ys : List Pair) → HasDistinctKeys xs → HasDistinctKeys ys → same_maps xs ys ≡ b → ¬ (length xs ≡ length ys) → b ≡ false
length_told false xs ys d f e h = refl
length_told true xs ys d f e h =
    let each = both_true (same_members (members_of xs) ys) (has_keys xs ys) e in
    let less : length xs ≤ length ys = no_more_keys xs ys d (keys-same xs ys each.0) in
    let more : length ys ≤ length xs = no_more_keys ys xs f each.1 in
    absurd (h (omega (arith, less, more)))

pub other_count : (xs ys : List Pair) → HasDistinctKeys xs → HasDistinctKeys ys → ¬ (length xs ≡ length ys) → same_maps xs ys ≡ false
other_count xs ys d f h = length_told (same_maps xs ys) xs ys d f refl h

pub all_same : (xs ys : List Pair) → HasDistinctKeys xs → length xs ≡ length ys → same_members (members_of xs) ys ≡ true → same_maps xs ys ≡ true
all_same xs ys d e h = true_both (same_members (members_of xs) ys) (has_keys xs ys) h (all_keys xs ys d e (keys-same xs ys h))

pub one_differs : (xs ys : List Pair) → same_members (members_of xs) ys ≡ false → same_maps xs ys ≡ false
one_differs xs ys h = not_both (same_members (members_of xs) ys) (has_keys xs ys) h

pub maps_same : (xs ys : List Pair) → same_maps xs ys ≡ same (object (members_of xs)) (object (members_of ys))
maps_same xs ys =
    let first = sym (members_list-of xs) in
    let second = sym (members_list-of ys) in
    λ i. same_members (members_of xs) (second i) && has_keys (first i) (second i)

-- ---- the members of the one list, each beside that of its key in the other

module _ (ms those : List (List ℕ × Json)) (i : ℕ) (x : List ℕ × Json) (lt : i < length ms) where
  next_member : same_members (members_of (pairs (drop i ms))) (pairs those) ≡ (option_map_or (same (json_of (get_or ms i x).1)) (find_member (get_or ms i x).0 (pairs those)) false && same_members (members_of (pairs (drop (i + 1) ms))) (pairs those))
  next_member = λ j. same_members (members_of (pairs (drop_more ms i x lt j))) (pairs those)

  pub member_absent : index_of (get_or ms i x).0 (pairs those) ≡ None → same_members (members_of (pairs (drop i ms))) (pairs those) ≡ false
  member_absent h =
      let none = find-absent (get_or ms i x).0 (pairs those) h in
      next_member ∙ ap (λ o. option_map_or (same (json_of (get_or ms i x).1)) o false && same_members (members_of (pairs (drop (i + 1) ms))) (pairs those)) none

  module _ (place : ℕ) (y : List ℕ × Json) (at : index_of (get_or ms i x).0 (pairs those) ≡ Some place) where
    beside : same_members (members_of (pairs (drop i ms))) (pairs those) ≡ (same (json_of (get_or ms i x).1) (json_of (get_or those place y).1) && same_members (members_of (pairs (drop (i + 1) ms))) (pairs those))
    beside =
        let found = find-found (get_or ms i x).0 y those place at in
        next_member ∙ ap (λ o. option_map_or (same (json_of (get_or ms i x).1)) o false && same_members (members_of (pairs (drop (i + 1) ms))) (pairs those)) found

    pub member_differs : same (json_of (get_or ms i x).1) (json_of (get_or those place y).1) ≡ false → same_members (members_of (pairs (drop i ms))) (pairs those) ≡ false
    member_differs h = beside ∙ ap (λ b. b && same_members (members_of (pairs (drop (i + 1) ms))) (pairs those)) h

    pub member_same : same (json_of (get_or ms i x).1) (json_of (get_or those place y).1) ≡ true → same_members (members_of (pairs (drop (i + 1) ms))) (pairs those) ≡ same_members (members_of (pairs (drop i ms))) (pairs those)
    member_same h = sym (beside ∙ ap (λ b. b && same_members (members_of (pairs (drop (i + 1) ms))) (pairs those)) h)

pub no_member_left : (ms : List (List ℕ × Json)) (those : List Pair) (i : ℕ) → length ms ≤ i → same_members (members_of (pairs (drop i ms))) those ≡ true
no_member_left [] those zero h = refl
no_member_left [] those (suc i) h = refl
no_member_left (m ∷ ms) those zero h = absurd (omega (arith, h))
no_member_left (m ∷ ms) those (suc i) h = no_member_left ms those i (omega (arith, h))
