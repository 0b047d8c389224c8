-- Laws of JSON values.
use Rattle.std.proofs.Common.{ℕ, ◌≤◌, List, [], ◌∷◌, ◌++◌, arith, ◌≡◌, refl, sym, ap, max, Bool, true, false, Some, None, if◌then◌else◌}
use Rattle.std.specs.Str.{bytes_eq}
use Rattle.std.proofs.lemmas.Slice.Eq.{bytes_eq-Decides}
use Rattle.text_spec.specs.Json.{Json, Items, no_items, item, items_of, items_list, Members, no_members, member, members_of, members_list, levels, items_levels, members_levels, set_member, find_member, HasDistinctKeys}

-- ---- the two kinds of list, as plain lists

pub items_list-of : (js : List Json) → items_list (items_of js) ≡ js
items_list-of [] = refl
items_list-of (j ∷ js) = ap (λ xs. j ∷ xs) (items_list-of js)

pub items_of-list : (js : Items) → items_of (items_list js) ≡ js
items_of-list no_items = refl
items_of-list (item j js) = ap (λ xs. item j xs) (items_of-list js)

pub members_list-of : (ms : List (List ℕ × Json)) → members_list (members_of ms) ≡ ms
members_list-of [] = refl
members_list-of (m ∷ ms) = ap (λ xs. m ∷ xs) (members_list-of ms)

pub members_of-list : (ms : Members) → members_of (members_list ms) ≡ ms
members_of-list no_members = refl
members_of-list (member k j ms) = ap (λ xs. member k j xs) (members_of-list ms)

-- ---- what is looked for

-- neither the first member has the key nor one behind it
pub missed : (b : Bool) (k q : List ℕ) (j : Json) (ms : List (List ℕ × Json)) → bytes_eq k q ≡ b → (if b then Some j else find_member k ms) ≡ None → (bytes_eq k q ≡ false) × (find_member k ms ≡ None)
missed true k q j ms e h = cc
missed false k q j ms e h = (e, h)

differ_back : (x y : List ℕ) (b : Bool) → bytes_eq y x ≡ b → bytes_eq x y ≡ false → b ≡ false
differ_back x y false e h = refl
differ_back x y true e h = let same : bytes_eq x y ≡ true = (bytes_eq-Decides x y).1 (sym ((bytes_eq-Decides y x).0 e)) in cc

-- keys differ either way round
pub bytes_eq-symm : (x y : List ℕ) → bytes_eq x y ≡ false → bytes_eq y x ≡ false
bytes_eq-symm x y h = differ_back x y (bytes_eq y x) refl h

-- ---- levels

-- the levels of a list with one more item
pub items_levels-push : (js : List Json) (j : Json) → items_levels (items_of (js ++ j ∷ [])) ≡ max (items_levels (items_of js)) (levels j)
items_levels-push [] j = omega arith
items_levels-push (x ∷ js) j = omega (arith, items_levels-push js j)

pub members_levels-push : (ms : List (List ℕ × Json)) (m : List ℕ × Json) → members_levels (members_of (ms ++ m ∷ [])) ≡ max (members_levels (members_of ms)) (levels m.1)
members_levels-push [] m = omega arith
members_levels-push (x ∷ ms) m = omega (arith, members_levels-push ms m)

module _ (k : List ℕ) (j : Json) where
  levels_step : (b : Bool) (m : List ℕ × Json) (ms set : List (List ℕ × Json)) (n : ℕ) → max (levels m.1) (members_levels (members_of ms)) ≤ n → levels j ≤ n → members_levels (members_of set) ≤ n → members_levels (members_of (if b then (m.0, j) ∷ ms else m ∷ set)) ≤ n
  levels_step true m ms set n all one rest = omega arith
  levels_step false m ms set n all one rest = omega arith

  -- a value that nests no deeper than n leaves members that nest no deeper
  pub members_levels-set : (ms : List (List ℕ × Json)) (n : ℕ) → members_levels (members_of ms) ≤ n → levels j ≤ n → members_levels (members_of (set_member k j ms)) ≤ n
  members_levels-set [] n all one = omega arith
  members_levels-set (m ∷ ms) n all one = levels_step (bytes_eq k m.0) m ms (set_member k j ms) n all one (members_levels-set ms n (omega arith) one)

  absent_step : (b c : Bool) (q : List ℕ) (m : List ℕ × Json) (ms set : List (List ℕ × Json)) → bytes_eq q m.0 ≡ b → (if b then Some m.1 else find_member q ms) ≡ None → (find_member q ms ≡ None → find_member q set ≡ None) → find_member q (if c then (m.0, j) ∷ ms else m ∷ set) ≡ None
  absent_step true c q m ms set e h next = cc
  absent_step false true q m ms set e h next = rw e h
  absent_step false false q m ms set e h next = rw e (next h)

  -- a key other than k that is absent stays absent
  pub find-set_absent : (q : List ℕ) (ms : List (List ℕ × Json)) → bytes_eq q k ≡ false → find_member q ms ≡ None → find_member q (set_member k j ms) ≡ None
  find-set_absent q [] other h = rw other refl
  find-set_absent q (m ∷ ms) other h = absent_step (bytes_eq q m.0) (bytes_eq k m.0) q m ms (set_member k j ms) refl h (find-set_absent q ms other)

  distinct_step : (b : Bool) (m : List ℕ × Json) (ms : List (List ℕ × Json)) → bytes_eq k m.0 ≡ b → HasDistinctKeys (m ∷ ms) → HasDistinctKeys (set_member k j ms) → HasDistinctKeys (if b then (m.0, j) ∷ ms else m ∷ set_member k j ms)
  distinct_step true m ms e h new = h
  distinct_step false m ms e h new = (find-set_absent m.0 ms (bytes_eq-symm k m.0 e) h.0, new)

  pub distinct_keys-set : (ms : List (List ℕ × Json)) → HasDistinctKeys ms → HasDistinctKeys (set_member k j ms)
  distinct_keys-set [] h = (refl, tt)
  distinct_keys-set (m ∷ ms) h = distinct_step (bytes_eq k m.0) m ms refl h (distinct_keys-set ms h.1)
