-- Members by their key: what `index_of` says of a list that is set, extended or shortened.
use Rattle.std.proofs.Common.{◌≡◌, ◌∙◌, ℕ, suc, ◌+◌, ◌<◌, List, [], ◌∷◌, ◌++◌, length, set, get_or, refl, sym, ap, Bool, true, false, Option, Some, None, arith, if◌then◌else◌}
use Rattle.std.specs.Prelude.{option_map, remove}
use Rattle.std.specs.Str.{bytes_eq}
use Rattle.std.proofs.lemmas.Slice.Eq.{bytes_eq-Decides}
use Rattle.text_spec.proofs.of_plain_laws.Booleans.{both_ways}
use Rattle.text_spec.proofs.of_plain_laws.Options.{none_some, some_none}
use Rattle.text_spec.specs.Json as spec
use Rattle.text_spec.specs.Json.{find_member, set_member, without_member, settled}
use Rattle.json_tree.specs.declared.tree.Json.{Json}
use Rattle.json_tree.specs.Tree.{json_of, pair, pairs}
use Rattle.json_tree.specs.Places.{index_of}

map_some : (o : Option ℕ) (at : ℕ) → option_map suc o ≡ Some at → (a : ℕ) × (o ≡ Some a) × (at ≡ suc a)
map_some None at h = none_some at h
map_some (Some a) at h = (a, refl, cc)

map_none : (o : Option ℕ) → option_map suc o ≡ None → o ≡ None
map_none None h = refl
map_none (Some a) h = some_none (suc a) h

-- ---- a search from the front

shifted : (n : ℕ) (o : Option ℕ) → option_map (λ i. n + i) (option_map suc o) ≡ option_map (λ i. n + 1 + i) o
shifted n None = refl
shifted n (Some a) = let e : n + suc a ≡ n + 1 + a = omega arith in ap Some e

pub from_start : (o : Option ℕ) → option_map (λ i. 0 + i) o ≡ o
from_start None = refl
from_start (Some a) = let e : 0 + a ≡ a = omega arith in ap Some e

more_step : (b : Bool) (n : ℕ) (o : Option ℕ) → b ≡ false → option_map (λ i. n + i) (if b then Some 0 else option_map suc o) ≡ option_map (λ i. n + 1 + i) o
more_step true n o e = absurd (both_ways true refl e)
more_step false n o e = shifted n o

-- the key stands behind the first member
pub index-more : (k : List ℕ) (n : ℕ) (m : List ℕ × spec.Json) (ms : List (List ℕ × spec.Json)) → bytes_eq k m.0 ≡ false → option_map (λ i. n + i) (index_of k (m ∷ ms)) ≡ option_map (λ i. n + 1 + i) (index_of k ms)
index-more k n m ms e = more_step (bytes_eq k m.0) n (index_of k ms) e

here_step : (b : Bool) (n : ℕ) (o : Option ℕ) → b ≡ true → option_map (λ i. n + i) (if b then Some 0 else option_map suc o) ≡ Some n
here_step true n o e = let z : n + 0 ≡ n = omega arith in ap Some z
here_step false n o e = absurd (both_ways false e refl)

pub index-here : (k : List ℕ) (n : ℕ) (m : List ℕ × spec.Json) (ms : List (List ℕ × spec.Json)) → bytes_eq k m.0 ≡ true → option_map (λ i. n + i) (index_of k (m ∷ ms)) ≡ Some n
index-here k n m ms e = here_step (bytes_eq k m.0) n (index_of k ms) e

-- ---- a member that is set

module _ (k : List ℕ) (v : spec.Json) where
  same_step : (c : Bool) (q : List ℕ) (at : ℕ) (m : List ℕ × spec.Json) (ms more : List (List ℕ × spec.Json)) → (if c then Some 0 else option_map suc (index_of k ms)) ≡ Some at → ((a : ℕ) → index_of k ms ≡ Some a → index_of q more ≡ index_of q ms) → index_of q (if c then (m.0, v) ∷ ms else m ∷ more) ≡ index_of q (m ∷ ms)
  same_step true q at m ms more h next = refl
  same_step false q at m ms more h next = let w = map_some (index_of k ms) at h in ap (λ o. if bytes_eq q m.0 then Some 0 else option_map suc o) (next w.0 w.1)

  -- a new value changes no place
  pub index-set : (q : List ℕ) (ms : List (List ℕ × spec.Json)) (at : ℕ) → index_of k ms ≡ Some at → index_of q (set_member k v ms) ≡ index_of q ms
  index-set q [] at h = none_some at h
  index-set q (m ∷ ms) at h = same_step (bytes_eq k m.0) q at m ms (set_member k v ms) h (index-set q ms)

  absent_step : (c : Bool) (m : List ℕ × spec.Json) (ms : List (List ℕ × spec.Json)) → (if c then Some 0 else option_map suc (index_of k ms)) ≡ None → (index_of k ms ≡ None → set_member k v ms ≡ ms ++ (k, v) ∷ []) → (if c then (m.0, v) ∷ ms else m ∷ set_member k v ms) ≡ m ∷ (ms ++ (k, v) ∷ [])
  absent_step true m ms h next = some_none 0 h
  absent_step false m ms h next = ap (λ xs. m ∷ xs) (next (map_none (index_of k ms) h))

  -- a key that stands nowhere goes to the end
  pub set-absent : (ms : List (List ℕ × spec.Json)) → index_of k ms ≡ None → set_member k v ms ≡ ms ++ (k, v) ∷ []
  set-absent [] h = refl
  set-absent (m ∷ ms) h = absent_step (bytes_eq k m.0) m ms h (set-absent ms)

  swapped : (q : List ℕ) (c d : Bool) → bytes_eq q k ≡ c → bytes_eq k q ≡ d → if◌then◌else◌ {A = Option ℕ} c (Some 0) None ≡ if◌then◌else◌ {A = Option ℕ} d (Some 0) None
  swapped q true true e h = refl
  swapped q false false e h = refl
  swapped q true false e h = absurd (both_ways (bytes_eq k q) ((bytes_eq-Decides k q).1 (sym ((bytes_eq-Decides q k).0 e))) h)
  swapped q false true e h = absurd (both_ways (bytes_eq q k) ((bytes_eq-Decides q k).1 (sym ((bytes_eq-Decides k q).0 h))) e)

  push_step : (q : List ℕ) (a b c : Bool) (m : List ℕ × spec.Json) (ms : List (List ℕ × spec.Json)) → bytes_eq q m.0 ≡ a → bytes_eq k q ≡ b → bytes_eq k m.0 ≡ c → (if c then Some 0 else option_map suc (index_of k ms)) ≡ None → (index_of k ms ≡ None → index_of q (ms ++ (k, v) ∷ []) ≡ (if b then Some (length ms) else index_of q ms)) → (if a then Some 0 else option_map suc (index_of q (ms ++ (k, v) ∷ []))) ≡ (if b then Some (suc (length ms)) else (if a then Some 0 else option_map suc (index_of q ms)))
  push_step q a b true m ms ea eb ec h next = some_none 0 h
  push_step q true true false m ms ea eb ec h next = absurd (both_ways (bytes_eq k m.0) ((bytes_eq-Decides k m.0).1 ((bytes_eq-Decides k q).0 eb ∙ (bytes_eq-Decides q m.0).0 ea)) ec)
  push_step q true false false m ms ea eb ec h next = refl
  push_step q false true false m ms ea eb ec h next = ap (option_map suc) (next (map_none (index_of k ms) h))
  push_step q false false false m ms ea eb ec h next = ap (option_map suc) (next (map_none (index_of k ms) h))

  -- the places in the list with one more key
  pub index-push : (q : List ℕ) (ms : List (List ℕ × spec.Json)) → index_of k ms ≡ None → index_of q (ms ++ (k, v) ∷ []) ≡ (if bytes_eq k q then Some (length ms) else index_of q ms)
  index-push q [] h = swapped q (bytes_eq q k) (bytes_eq k q) refl refl
  index-push q (m ∷ ms) h = push_step q (bytes_eq q m.0) (bytes_eq k q) (bytes_eq k m.0) m ms refl refl refl h (index-push q ms)

below_step : (c : Bool) (k : List ℕ) (at : ℕ) (ms : List (List ℕ × spec.Json)) → (if c then Some 0 else option_map suc (index_of k ms)) ≡ Some at → ((a : ℕ) → index_of k ms ≡ Some a → a < length ms) → at < suc (length ms)
below_step true k at ms h next = let z : at ≡ 0 = cc in omega (arith, z)
below_step false k at ms h next = let w = map_some (index_of k ms) at h in let l = next w.0 w.1 in omega (arith, l, w.2)

pub index-below : (k : List ℕ) (ms : List (List ℕ × spec.Json)) (at : ℕ) → index_of k ms ≡ Some at → at < length ms
index-below k [] at h = none_some at h
index-below k (m ∷ ms) at h = below_step (bytes_eq k m.0) k at ms h (index-below k ms)

-- ---- a key that stands nowhere

without_step : (c : Bool) (k : List ℕ) (m : List ℕ × spec.Json) (ms less : List (List ℕ × spec.Json)) → (if c then Some 0 else option_map suc (index_of k ms)) ≡ None → (index_of k ms ≡ None → less ≡ ms) → (if c then ms else m ∷ less) ≡ m ∷ ms
without_step true k m ms less h next = some_none 0 h
without_step false k m ms less h next = ap (λ xs. m ∷ xs) (next (map_none (index_of k ms) h))

pub without-absent : (k : List ℕ) (ms : List (List ℕ × spec.Json)) → index_of k ms ≡ None → without_member k ms ≡ ms
without-absent k [] h = refl
without-absent k (m ∷ ms) h = without_step (bytes_eq k m.0) k m ms (without_member k ms) h (without-absent k ms)

find_step : (c : Bool) (k : List ℕ) (m : List ℕ × spec.Json) (ms : List (List ℕ × spec.Json)) → (if c then Some 0 else option_map suc (index_of k ms)) ≡ None → (index_of k ms ≡ None → find_member k ms ≡ None) → (if c then Some m.1 else find_member k ms) ≡ None
find_step true k m ms h next = some_none 0 h
find_step false k m ms h next = next (map_none (index_of k ms) h)

pub find-absent : (k : List ℕ) (ms : List (List ℕ × spec.Json)) → index_of k ms ≡ None → find_member k ms ≡ None
find-absent k [] h = refl
find-absent k (m ∷ ms) h = find_step (bytes_eq k m.0) k m ms h (find-absent k ms)

-- ---- the member at the place of a key, in the list of the code

module _ (k : List ℕ) (d : List ℕ × Json) where
  value_step : (c : Bool) (at : ℕ) (x : List ℕ × Json) (xs : List (List ℕ × Json)) → (if c then Some 0 else option_map suc (index_of k (pairs xs))) ≡ Some at → ((a : ℕ) → index_of k (pairs xs) ≡ Some a → find_member k (pairs xs) ≡ Some (json_of (get_or xs a d).1)) → (if c then Some (json_of x.1) else find_member k (pairs xs)) ≡ Some (json_of (get_or (x ∷ xs) at d).1)
  value_step true at x xs h next = let z : at ≡ 0 = cc in rw z refl
  value_step false at x xs h next = let w = map_some (index_of k (pairs xs)) at h in rw w.2 (next w.0 w.1)

  pub find-found : (xs : List (List ℕ × Json)) (at : ℕ) → index_of k (pairs xs) ≡ Some at → find_member k (pairs xs) ≡ Some (json_of (get_or xs at d).1)
  find-found [] at h = none_some at h
  find-found (x ∷ xs) at h = value_step (bytes_eq k x.0) at x xs h (find-found xs)

module _ (k : List ℕ) where
  remove_step : (c : Bool) (at : ℕ) (x : List ℕ × Json) (xs : List (List ℕ × Json)) → (if c then Some 0 else option_map suc (index_of k (pairs xs))) ≡ Some at → ((a : ℕ) → index_of k (pairs xs) ≡ Some a → pairs (remove xs a) ≡ without_member k (pairs xs)) → pairs (remove (x ∷ xs) at) ≡ (if c then pairs xs else pair x ∷ without_member k (pairs xs))
  remove_step true at x xs h next = let z : at ≡ 0 = cc in rw z refl
  remove_step false at x xs h next = let w = map_some (index_of k (pairs xs)) at h in rw w.2 (ap (λ ms. pair x ∷ ms) (next w.0 w.1))

  pub remove-found : (xs : List (List ℕ × Json)) (at : ℕ) → index_of k (pairs xs) ≡ Some at → pairs (remove xs at) ≡ without_member k (pairs xs)
  remove-found [] at h = none_some at h
  remove-found (x ∷ xs) at h = remove_step (bytes_eq k x.0) at x xs h (remove-found xs)

module _ (k : List ℕ) (v : Json) (d : List ℕ × Json) where
  found_step : (c : Bool) (at : ℕ) (x : List ℕ × Json) (xs : List (List ℕ × Json)) → (if c then Some 0 else option_map suc (index_of k (pairs xs))) ≡ Some at → ((a : ℕ) → index_of k (pairs xs) ≡ Some a → pairs (set xs a ((get_or xs a d).0, v)) ≡ set_member k (json_of v) (pairs xs)) → pairs (set (x ∷ xs) at ((get_or (x ∷ xs) at d).0, v)) ≡ (if c then (x.0, json_of v) ∷ pairs xs else pair x ∷ set_member k (json_of v) (pairs xs))
  found_step true at x xs h next = let z : at ≡ 0 = cc in rw z refl
  found_step false at x xs h next = let w = map_some (index_of k (pairs xs)) at h in rw w.2 (ap (λ ms. pair x ∷ ms) (next w.0 w.1))

  -- a write at the place of the key sets its value
  pub set-found : (xs : List (List ℕ × Json)) (at : ℕ) → index_of k (pairs xs) ≡ Some at → pairs (set xs at ((get_or xs at d).0, v)) ≡ set_member k (json_of v) (pairs xs)
  set-found [] at h = none_some at h
  set-found (x ∷ xs) at h = found_step (bytes_eq k x.0) at x xs h (set-found xs)

-- ---- pairs that are settled

pub settled-more : (ms done : List (List ℕ × spec.Json)) (m : List ℕ × spec.Json) → settled done (ms ++ m ∷ []) ≡ set_member m.0 m.1 (settled done ms)
settled-more [] done m = refl
settled-more (x ∷ ms) done m = settled-more ms (set_member x.0 x.1 done) m

-- one more key that stands nowhere before
pub settled-push : (ms : List (List ℕ × spec.Json)) (m : List ℕ × spec.Json) → index_of m.0 ms ≡ None → settled [] ms ≡ ms → settled [] (ms ++ m ∷ []) ≡ ms ++ m ∷ []
settled-push ms m absent same = settled-more ms [] m ∙ ap (set_member m.0 m.1) same ∙ set-absent m.0 m.1 ms absent
