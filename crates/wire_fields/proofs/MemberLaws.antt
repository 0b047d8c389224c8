-- Members by their key: from a place on, and where others have left.
use Rattle.std.proofs.Common.{◌≡◌, ◌∙◌, ℕ, ◌+◌, List, [], ◌∷◌, drop, refl, sym, ap, Bool, true, false, Some, None, if◌then◌else◌}
use Rattle.std.specs.Prelude.{slice_get, not, ◌&&◌}
use Rattle.std.specs.List.{list_all}
use Rattle.std.specs.Str.{bytes_eq}
use Rattle.std.proofs.lemmas.List.{drop_more}
use Rattle.std.proofs.lemmas.Option.{slice_get_within, get_or_from_slice_get}
use Rattle.std.proofs.lemmas.Slice.Eq.{bytes_eq-Decides}
use Rattle.wire_spec.proofs.of_plain_laws.Options.{none_some}
use Rattle.wire_spec.specs.text_spec.Json.{Json, find_member, without_member, HasDistinctKeys}

module _ (name : List ℕ) (ms : List (List ℕ × Json)) (at : ℕ) (m : List ℕ × Json) (is : slice_get ms at ≡ Some m) where
  find_from : find_member name (drop at ms) ≡ (if bytes_eq name m.0 then Some m.1 else find_member name (drop (at + 1) ms))
  find_from =
      ap (find_member name) (drop_more ms at m (slice_get_within ms at m is) ∙ ap (λ x. x ∷ drop (at + 1) ms) (get_or_from_slice_get ms at m m is))

  pub find_here : bytes_eq name m.0 ≡ true → find_member name (drop at ms) ≡ Some m.1
  find_here e = find_from ∙ rw e (λ i. Some m.1)

  pub find_later : bytes_eq name m.0 ≡ false → find_member name (drop at ms) ≡ find_member name (drop (at + 1) ms)
  find_later e = find_from ∙ rw e (λ i. find_member name (drop (at + 1) ms))

-- ---- a member that has left

both_ways : (x : Bool) → x ≡ false → x ≡ true → ⊥
both_ways true e f = cc
both_ways false e f = cc

module _ (k gone : List ℕ) (apart : bytes_eq k gone ≡ false) where
  without_step : (b c : Bool) (m : List ℕ × Json) (ms less : List (List ℕ × Json)) → bytes_eq k m.0 ≡ b → bytes_eq gone m.0 ≡ c → find_member k less ≡ find_member k ms → find_member k (if c then ms else m ∷ less) ≡ (if b then Some m.1 else find_member k ms)
  without_step true true m ms less e f next = absurd (both_ways (bytes_eq k gone) apart ((bytes_eq-Decides k gone).1 ((bytes_eq-Decides k m.0).0 e ∙ sym ((bytes_eq-Decides gone m.0).0 f))))
  without_step false true m ms less e f next = refl
  without_step true false m ms less e f next = rw e refl
  without_step false false m ms less e f next = rw e next

  -- the members of other keys are found as before
  pub find-without_other : (ms : List (List ℕ × Json)) → find_member k (without_member gone ms) ≡ find_member k ms
  find-without_other [] = refl
  find-without_other (m ∷ ms) = without_step (bytes_eq k m.0) (bytes_eq gone m.0) m ms (without_member gone ms) refl refl (find-without_other ms)

-- ---- members that have left one after the other, the last one first

abbrev pub without_all : List (List ℕ) → List (List ℕ × Json) → List (List ℕ × Json)
without_all [] ms = ms
without_all (gone ∷ more) ms = without_member gone (without_all more ms)

abbrev pub is_apart : List ℕ → List (List ℕ) → Bool
is_apart k = list_all (λ gone. not (bytes_eq k gone))

and_left : (b c : Bool) → not b && c ≡ true → b ≡ false
and_left true c h = cc
and_left false c h = refl

and_right : (b c : Bool) → not b && c ≡ true → c ≡ true
and_right true c h = cc
and_right false c h = h

-- a key that is none of those is found as before
pub find-without_all : (k : List ℕ) (gone : List (List ℕ)) (ms : List (List ℕ × Json)) → is_apart k gone ≡ true → find_member k (without_all gone ms) ≡ find_member k ms
find-without_all k [] ms h = refl
find-without_all k (g ∷ gone) ms h =
    let first : bytes_eq k g ≡ false = and_left (bytes_eq k g) (is_apart k gone) h in
    find-without_other k g first (without_all gone ms) ∙ find-without_all k gone ms (and_right (bytes_eq k g) (is_apart k gone) h)

-- ---- no key stands twice

module _ (gone : List ℕ) where
  absent_step : (b c : Bool) (k : List ℕ) (m : List ℕ × Json) (ms less : List (List ℕ × Json)) → bytes_eq k m.0 ≡ b → (if b then Some m.1 else find_member k ms) ≡ None → (find_member k ms ≡ None → find_member k less ≡ None) → find_member k (if c then ms else m ∷ less) ≡ None
  absent_step true c k m ms less e h next = none_some m.1 (sym h)
  absent_step false true k m ms less e h next = h
  absent_step false false k m ms less e h next = rw e (next h)

  -- what was absent stays absent
  pub find-without_absent : (k : List ℕ) (ms : List (List ℕ × Json)) → find_member k ms ≡ None → find_member k (without_member gone ms) ≡ None
  find-without_absent k [] h = refl
  find-without_absent k (m ∷ ms) h = absent_step (bytes_eq k m.0) (bytes_eq gone m.0) k m ms (without_member gone ms) refl h (find-without_absent k ms)

  distinct_step : (b : Bool) (m : List ℕ × Json) (ms : List (List ℕ × Json)) → HasDistinctKeys (m ∷ ms) → HasDistinctKeys (without_member gone ms) → HasDistinctKeys (if b then ms else m ∷ without_member gone ms)
  distinct_step true m ms h less = h.1
  distinct_step false m ms h less = (find-without_absent m.0 ms h.0, less)

  pub distinct_keys-without : (ms : List (List ℕ × Json)) → HasDistinctKeys ms → HasDistinctKeys (without_member gone ms)
  distinct_keys-without [] h = h
  distinct_keys-without (m ∷ ms) h = distinct_step (bytes_eq gone m.0) m ms h (distinct_keys-without ms h.1)
