-- The first element that passes a test is found by a text, where the places under each text rise.
use Rattle.std.proofs.Common.{◌≡◌, ◌∙◌, ℕ, zero, suc, ◌+◌, ◌<◌, ◌==◌, List, [], ◌∷◌, ◌++◌, Bool, true, false, ◌||◌, if◌then◌else◌, Option, Some, None, refl, sym, ap, subst, drop, get_or, length, append-nil, true≢false, arith}
use Rattle.std.specs.Prelude.{slice_get}
use Rattle.std.specs.List.{find, list_any}
use Rattle.std.specs.Option.{option_and_then, option_map_or}
use Rattle.std.proofs.lemmas.Bool.Decides.{Decides-eqb}
use Rattle.std.proofs.lemmas.List.{drop_more}
use Rattle.fleet_tables.proofs.of_plain_laws.Booleans.{or_falses}
use Rattle.query_rows.specs.Indexed.{places_at, places_under, holds_place, passes_at, AreRising, IsRising}
use Rattle.query_rows.specs.Marked.{number_of}
use Rattle.query_rows.specs.declared.index.Index.{Index}
use Rattle.query_rows.proofs.IndexLaws.{either_true}

-- ---- one place more

rising-push : (m : ℕ) (ps : List ℕ) (n : ℕ) → AreRising m ps n → AreRising m (ps ++ n ∷ []) (n + 1)
rising-push m [] n h = (h, omega arith)
rising-push m (p ∷ ps) n h = (h.0, rising-push (suc p) ps n h.1)

rising-more : (m : ℕ) (ps : List ℕ) (n : ℕ) → AreRising m ps n → AreRising m ps (n + 1)
rising-more m [] n h = omega (arith, h)
rising-more m (p ∷ ps) n h = (h.0, rising-more (suc p) ps n h.1)

rising_step : (b : Bool) (ps : List ℕ) (n : ℕ) → AreRising zero ps n → AreRising zero (ps ++ (if b then n ∷ [] else [])) (n + 1)
rising_step true ps n h = rising-push zero ps n h
rising_step false ps n h = subst (λ l. AreRising zero l (n + 1)) (sym (append-nil ps)) (rising-more zero ps n h)

pub noted_rises : (old new : Index) (number place : ℕ) → ((q : ℕ) → places_at new.lists.items q ≡ places_at old.lists.items q ++ (if number == q then place ∷ [] else [])) → IsRising old place → IsRising new (place + 1)
noted_rises old new number place put h = λ q.
    subst (λ l. AreRising zero l (place + 1)) (sym (put q)) (rising_step (number == q) (places_at old.lists.items q) place (h q))

-- those under a text rise
rising_there : (x : Index) (n : ℕ) → IsRising x n → (o : Option ℕ) → AreRising zero (option_map_or (places_at x.lists.items) o []) n
rising_there x n h None = omega arith
rising_there x n h (Some q) = h q

-- ---- what passes a test, and where

is_false : (b : Bool) → (b ≡ true → ⊥) → b ≡ false
is_false true never = absurd (never refl)
is_false false never = refl

-- a number below rising ones is none of them
not_among : (m : ℕ) (ps : List ℕ) (n k : ℕ) → AreRising m ps n → k < m → list_any (λ q. q == k) ps ≡ false
not_among m [] n k h lt = refl
not_among m (p ∷ ps) n k h lt =
    or_falses (p == k) (list_any (λ q. q == k) ps)
    (is_false (p == k) (λ e. let same : p ≡ k = (Decides-eqb p k).0 e in omega (arith, same, lt, h.0)))
    (not_among (suc p) ps n k h.1 (omega (arith, lt, h.0)))

module _ {A : Type 0} (test : A → Bool) where
  -- the first is the one that passes where none before it does
  first_is : (list : List A) (j : ℕ) → passes_at test list j ≡ true → ((k : ℕ) → k < j → passes_at test list k ≡ false) → slice_get list j ≡ find test list
  first_is [] j h before = absurd (true≢false (sym h))
  first_is (x ∷ list) zero h before = sym (ap (λ b. if b then Some x else find test list) h)
  first_is (x ∷ list) (suc j) h before =
      first_is list j h (λ k lt. before (suc k) (omega (arith, lt)))
      ∙ sym (ap (λ b. if b then Some x else find test list) (before zero (omega arith)))

  none_is : (list : List A) → ((k : ℕ) → passes_at test list k ≡ false) → None ≡ find test list
  none_is [] h = refl
  none_is (x ∷ list) h = none_is list (λ k. h (suc k)) ∙ sym (ap (λ b. if b then Some x else find test list) (h zero))

  module _ (list : List A) where
    -- each place that passes is one of these
    abbrev Covers : List ℕ → Type 0
    Covers ps = (k : ℕ) → passes_at test list k ≡ true → list_any (λ q. q == k) ps ≡ true

    -- none below m passes
    abbrev NoneBelow : ℕ → Type 0
    NoneBelow m = (k : ℕ) → k < m → passes_at test list k ≡ false

    none_before : (p : ℕ) (ps : List ℕ) (n : ℕ) → AreRising (suc p) ps n → Covers (p ∷ ps) → NoneBelow p
    none_before p ps n h covers k lt =
        is_false (passes_at test list k)
        (λ t. either_true (p == k) (list_any (λ q. q == k) ps) (covers k t)
        (λ e. let same : p ≡ k = (Decides-eqb p k).0 e in omega (arith, same, lt))
        (λ e. true≢false (sym e ∙ not_among (suc p) ps n k h (omega (arith, lt)))))

    -- the rest of the places, where the first of them doesn't pass
    rest_covers : (p : ℕ) (ps : List ℕ) → passes_at test list p ≡ false → Covers (p ∷ ps) → Covers ps
    rest_covers p ps f covers k t =
        either_true (p == k) (list_any (λ q. q == k) ps) (covers k t)
        (λ e. absurd (true≢false (sym t ∙ sym (ap (passes_at test list) ((Decides-eqb p k).0 e)) ∙ f)))
        (λ e. e)

    first_step : (b : Bool) (p : ℕ) (ps : List ℕ) (n : ℕ) → passes_at test list p ≡ b → AreRising (suc p) ps n → Covers (p ∷ ps)
        → (Covers ps → option_and_then (slice_get list) (find (passes_at test list) ps) ≡ find test list)
        → option_and_then (slice_get list) (if b then Some p else find (passes_at test list) ps) ≡ find test list
    first_step true p ps n e h covers rest = first_is list p e (none_before p ps n h covers)
    first_step false p ps n e h covers rest = rest (rest_covers p ps e covers)

    first_at : (m : ℕ) (ps : List ℕ) (n : ℕ) → AreRising m ps n → Covers ps → option_and_then (slice_get list) (find (passes_at test list) ps) ≡ find test list
    first_at m [] n h covers = none_is list (λ k. is_false (passes_at test list k) (λ t. true≢false (sym (covers k t))))
    first_at m (p ∷ ps) n h covers = first_step (passes_at test list p) p ps n refl h.1 covers (first_at (suc p) ps n h.1)

    module _ (x : Index) (t : List ℕ) (n : ℕ) (rising : IsRising x n) (held : (j : ℕ) (a : A) → slice_get list j ≡ Some a → test a ≡ true → holds_place x t j) where
      covered : (k : ℕ) (o : Option A) → slice_get list k ≡ o → option_map_or test o false ≡ true → list_any (λ q. q == k) (places_under x t) ≡ true
      covered k None at h = absurd (true≢false (sym h))
      covered k (Some a) at h = held k a at h

      -- at the first of the places under the text
      pub first_under : option_and_then (slice_get list) (find (passes_at test list) (places_under x t)) ≡ find test list
      first_under = first_at zero (places_under x t) n (rising_there x n rising (number_of x.numbers t)) (λ k h. covered k (slice_get list k) refl h)

-- ---- a list that is looked through

module _ (test : ℕ → Bool) (ps : List ℕ) (i : ℕ) (lt : i < length ps) (whole : Option ℕ) (so : find test (drop i ps) ≡ whole) where
  begins : find test (drop i ps) ≡ (if test (get_or ps i 0) then Some (get_or ps i 0) else find test (drop (i + 1) ps))
  begins = ap (find test) (drop_more ps i 0 lt)

  pub find_here : test (get_or ps i 0) ≡ true → Some (get_or ps i 0) ≡ whole
  find_here t = sym (ap (λ b. if b then Some (get_or ps i 0) else find test (drop (i + 1) ps)) t) ∙ sym begins ∙ so

  pub find_on : test (get_or ps i 0) ≡ false → find test (drop (i + 1) ps) ≡ whole
  find_on f = sym (ap (λ b. if b then Some (get_or ps i 0) else find test (drop (i + 1) ps)) f) ∙ sym begins ∙ so
