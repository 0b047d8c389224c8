-- Keys whose marks are set, and one whose mark is not.
use Rattle.std.proofs.Common.{◌≡◌, ◌∙◌, ℕ, suc, ◌<◌, List, [], ◌∷◌, ◌++◌, length, set, get_or, get_or-set_same, get_or-set_other, inl, inr, refl, sym, ap, subst, Bool, true, false, Some, None, if◌then◌else◌}
use Rattle.std.specs.Prelude.{option_map}
use Rattle.std.specs.Str.{bytes_eq}
use Rattle.std.proofs.lemmas.Slice.Eq.{bytes_eq-Decides}
use Rattle.std.proofs.lemmas.Bool.{cases_eq}
use Rattle.text_spec.proofs.of_plain_laws.Booleans.{both_ways}
use Rattle.text_spec.specs.Json as spec
use Rattle.json_tree.specs.Places.{index_of}

module _ (mark : List ℕ → ℕ) where
  -- the mark of each key is set
  abbrev pub AreMarked : List Bool → List (List ℕ × spec.Json) → Type 0
  AreMarked marks [] = Unit {0}
  AreMarked marks (m ∷ ms) = (get_or marks (mark m.0) false ≡ true) × AreMarked marks ms

  absent_step : (marks : List Bool) (k : List ℕ) (m : List ℕ × spec.Json) (ms : List (List ℕ × spec.Json)) (b : Bool) → bytes_eq k m.0 ≡ b → get_or marks (mark m.0) false ≡ true → get_or marks (mark k) false ≡ false → index_of k ms ≡ None → (if b then Some 0 else option_map suc (index_of k ms)) ≡ None
  absent_step marks k m ms true e set none rest = absurd (both_ways (get_or marks (mark k) false) (ap (λ q. get_or marks (mark q) false) ((bytes_eq-Decides k m.0).0 e) ∙ set) none)
  absent_step marks k m ms false e set none rest = ap (option_map suc) rest

  -- a key whose mark is not set stands nowhere
  pub unmarked_absent : (marks : List Bool) (k : List ℕ) (ms : List (List ℕ × spec.Json)) → AreMarked marks ms → get_or marks (mark k) false ≡ false → index_of k ms ≡ None
  unmarked_absent marks k [] all none = refl
  unmarked_absent marks k (m ∷ ms) all none = absent_step marks k m ms (bytes_eq k m.0) refl all.0 none (unmarked_absent marks k ms all.1 none)

  -- one mark more
  pub marked-set : (marks : List Bool) (i : ℕ) (ms : List (List ℕ × spec.Json)) → i < length marks → AreMarked marks ms → AreMarked (set marks i true) ms
  marked-set marks i [] lt all = tt
  marked-set marks i (m ∷ ms) lt all = (kept (mark m.0) all.0, marked-set marks i ms lt all.1)
    where
      kept : (j : ℕ) → get_or marks j false ≡ true → get_or (set marks i true) j false ≡ true
      kept j h = elim (cases_eq j i) [
        | inl e ↦ subst (λ n. get_or (set marks i true) n false ≡ true) (sym e) (get_or-set_same marks i true false lt)
        | inr ne ↦ get_or-set_other marks i j true false ne ∙ h
      ]

  pub marked-push : (marks : List Bool) (m : List ℕ × spec.Json) (ms : List (List ℕ × spec.Json)) → AreMarked marks ms → get_or marks (mark m.0) false ≡ true → AreMarked marks (ms ++ m ∷ [])
  marked-push marks m [] all one = (one, tt)
  marked-push marks m (x ∷ ms) all one = (all.0, marked-push marks m ms all.1 one)
