-- What `Members` keep through a call: their levels, and that no key stands twice.
use Rattle.std.proofs.Common.{ℕ, ◌≤◌, List, [], ◌∷◌, arith, ◌≡◌, refl, sym, subst, max, Result, Ok, Err, OnOk, OnErr, Bool, true, false, Option, Some, None, if◌then◌else◌}
use Rattle.std.specs.Prelude.{IfSome, option_map}
use Rattle.std.specs.Str.{bytes_eq}
use Rattle.text_spec.proofs.of_plain_laws.Options.{none_some}
use Rattle.text_spec.specs.Json as spec
use Rattle.text_spec.specs.Json.{members_of, levels, members_levels, find_member, set_member, without_member, settled, HasDistinctKeys}
use Rattle.text_spec.proofs.JsonLemmas.{members_levels-set, distinct_keys-set}
use Rattle.json_tree.specs.declared.tree.Json.{Json}
use Rattle.json_tree.specs.Tree.{json_of, pairs}

abbrev pub AreMembers : List (List ℕ × spec.Json) → Type 0
AreMembers ms = (members_levels (members_of ms) ≤ 126) × HasDistinctKeys ms

-- after `set`, whichever way it ended
pub set-kept : {T E : Type 0} (k : List ℕ) (v : spec.Json) (r : Result T E) (old new : List (List ℕ × Json)) → OnOk r (pairs new ≡ set_member k v (pairs old)) → OnErr r (new ≡ old) → levels v ≤ 126 → AreMembers (pairs old) → AreMembers (pairs new)
set-kept k v (Ok x) old new ok err small h = subst AreMembers (sym ok) (members_levels-set k v (pairs old) 126 h.0 small, distinct_keys-set k v (pairs old) h.1)
set-kept k v (Err e) old new ok err small h = subst (λ ms. AreMembers (pairs ms)) (sym err) h

module _ (k : List ℕ) where
  levels_step : (b : Bool) (m : List ℕ × spec.Json) (ms less : List (List ℕ × spec.Json)) (n : ℕ) → max (levels m.1) (members_levels (members_of ms)) ≤ n → members_levels (members_of less) ≤ n → members_levels (members_of (if b then ms else m ∷ less)) ≤ n
  levels_step true m ms less n all rest = omega arith
  levels_step false m ms less n all rest = omega arith

  members_levels-without : (ms : List (List ℕ × spec.Json)) (n : ℕ) → members_levels (members_of ms) ≤ n → members_levels (members_of (without_member k ms)) ≤ n
  members_levels-without [] n all = all
  members_levels-without (m ∷ ms) n all = levels_step (bytes_eq k m.0) m ms (without_member k ms) n all (members_levels-without ms n (omega arith))

  find_step : (b c : Bool) (q : List ℕ) (m : List ℕ × spec.Json) (ms less : List (List ℕ × spec.Json)) → bytes_eq q m.0 ≡ b → (if b then Some m.1 else find_member q ms) ≡ None → (find_member q ms ≡ None → find_member q less ≡ None) → find_member q (if c then ms else m ∷ less) ≡ None
  find_step true c q m ms less e h next = none_some m.1 (sym h)
  find_step false true q m ms less e h next = h
  find_step false false q m ms less e h next = rw e (next h)

  find-without : (q : List ℕ) (ms : List (List ℕ × spec.Json)) → find_member q ms ≡ None → find_member q (without_member k ms) ≡ None
  find-without q [] h = refl
  find-without q (m ∷ ms) h = find_step (bytes_eq q m.0) (bytes_eq k m.0) q m ms (without_member k ms) refl h (find-without q ms)

  distinct_step : (b : Bool) (m : List ℕ × spec.Json) (ms : List (List ℕ × spec.Json)) → HasDistinctKeys (m ∷ ms) → HasDistinctKeys (without_member k ms) → HasDistinctKeys (if b then ms else m ∷ without_member k ms)
  distinct_step true m ms h less = h.1
  distinct_step false m ms h less = (find-without m.0 ms h.0, less)

  distinct_keys-without : (ms : List (List ℕ × spec.Json)) → HasDistinctKeys ms → HasDistinctKeys (without_member k ms)
  distinct_keys-without [] h = h
  distinct_keys-without (m ∷ ms) h = distinct_step (bytes_eq k m.0) m ms h (distinct_keys-without ms h.1)

  value_step : (b : Bool) (m : List ℕ × spec.Json) (ms : List (List ℕ × spec.Json)) (j : spec.Json) → (if b then Some m.1 else find_member k ms) ≡ Some j → (find_member k ms ≡ Some j → levels j ≤ members_levels (members_of ms)) → levels j ≤ max (levels m.1) (members_levels (members_of ms))
  value_step true m ms j h next = let e : m.1 ≡ j = cc in subst (λ x. levels x ≤ max (levels m.1) (members_levels (members_of ms))) e (omega arith)
  value_step false m ms j h next = omega (arith, next h)

  pub levels-found : (ms : List (List ℕ × spec.Json)) (j : spec.Json) → find_member k ms ≡ Some j → levels j ≤ members_levels (members_of ms)
  levels-found [] j h = none_some j h
  levels-found (m ∷ ms) j h = value_step (bytes_eq k m.0) m ms j h (levels-found ms j)

-- after `take`
pub without-kept : (k : List ℕ) (old new : List (List ℕ × Json)) → pairs new ≡ without_member k (pairs old) → AreMembers (pairs old) → AreMembers (pairs new)
without-kept k old new e h = subst AreMembers (sym e) (members_levels-without k (pairs old) 126 h.0, distinct_keys-without k (pairs old) h.1)

pub taken-shallow : (k : List ℕ) (ms : List (List ℕ × spec.Json)) (o : Option Json) → option_map json_of o ≡ find_member k ms → members_levels (members_of ms) ≤ 126 → IfSome o (λ j. levels (json_of j) ≤ 126)
taken-shallow k ms None e h = tt
taken-shallow k ms (Some j) e h = omega (arith, levels-found k ms (json_of j) (sym e))

-- ---- pairs that are settled

-- they nest no deeper than the pairs
pub settled-levels : (done ms : List (List ℕ × spec.Json)) (n : ℕ) → members_levels (members_of done) ≤ n → members_levels (members_of ms) ≤ n → members_levels (members_of (settled done ms)) ≤ n
settled-levels done [] n h all = h
settled-levels done (m ∷ ms) n h all = settled-levels (set_member m.0 m.1 done) ms n (members_levels-set m.0 m.1 done n h (omega arith)) (omega arith)

pub settled-distinct : (done ms : List (List ℕ × spec.Json)) → HasDistinctKeys done → HasDistinctKeys (settled done ms)
settled-distinct done [] h = h
settled-distinct done (m ∷ ms) h = settled-distinct (set_member m.0 m.1 done) ms (distinct_keys-set m.0 m.1 done h)

pub distinct-settled : (ms new : List (List ℕ × spec.Json)) → new ≡ settled [] ms → HasDistinctKeys new
distinct-settled ms new e = subst HasDistinctKeys (sym e) (settled-distinct [] ms tt)

pub levels-settled : (ms new : List (List ℕ × spec.Json)) → new ≡ settled [] ms → (n : ℕ) → members_levels (members_of ms) ≤ n → members_levels (members_of new) ≤ n
levels-settled ms new e n h = subst (λ x. members_levels (members_of x) ≤ n) (sym e) (settled-levels [] ms n (omega arith) h)
