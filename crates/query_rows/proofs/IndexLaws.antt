-- What stands under a text, and that what passes a test is found by a text.
use Rattle.std.proofs.Common.{◌≡◌, ◌∙◌, ℕ, zero, suc, ◌+◌, ◌<◌, ◌==◌, List, [], ◌∷◌, ◌++◌, Bool, true, false, ◌||◌, if◌then◌else◌, Option, Some, None, refl, sym, ap, subst, drop, get_or, set, length, append-nil, true≢false, ◌≤◌, arith}
use Rattle.std.specs.Prelude.{slice_get}
use Rattle.std.specs.List.{list_any}
use Rattle.std.specs.Option.{option_map_or}
use Rattle.std.proofs.lemmas.Bool.Decides.{Decides-eqb}
use Rattle.std.proofs.lemmas.List.{drop_more}
use Rattle.std.proofs.lemmas.List.Folds.{list_any-append}
use Rattle.std.proofs.lemmas.Option.{slice_get-get_or, slice_get_within}
use Rattle.fleet_tables.proofs.of_plain_laws.Booleans.{or_left, or_right}
use Rattle.query_rows.specs.Indexed.{places_there, places_at, places_under, holds_place, passes_at}
use Rattle.query_rows.specs.Marked.{number_of}
use Rattle.query_rows.specs.declared.index.Index.{Index}
use Rattle.query_rows.specs.declared.index.PlaceList.{PlaceList}
use Rattle.query_rows.proofs.PartLaws.{get-set_same, get-set_other}

-- ---- one place more

module _ (ls : List PlaceList) (i : ℕ) (l new : PlaceList) (place : ℕ) (lt : i < length ls) (is : l ≡ get_or ls i l) (pushed : new.places.items ≡ l.places.items ++ place ∷ []) where
  set_here : places_at (set ls i new) i ≡ places_at ls i ++ place ∷ []
  set_here =
      ap places_there (get-set_same ls i new lt)
      ∙ pushed
      ∙ ap (λ o. places_there o ++ place ∷ []) (sym (slice_get-get_or ls i l lt ∙ ap (λ (x : PlaceList). Some x) (sym is)))

  set_step : (b : Bool) (q : ℕ) → (i == q) ≡ b → places_at (set ls i new) q ≡ places_at ls q ++ (if b then place ∷ [] else [])
  set_step true q e = subst (λ k. places_at (set ls i new) k ≡ places_at ls k ++ place ∷ []) ((Decides-eqb i q).0 e) set_here
  set_step false q e =
      ap places_there (get-set_other ls i q new (λ same. true≢false (sym ((Decides-eqb i q).1 same) ∙ e))) ∙ sym (append-nil (places_at ls q))

  pub put_is : (q : ℕ) → places_at (set ls i new) q ≡ places_at ls q ++ (if i == q then place ∷ [] else [])
  put_is q = set_step (i == q) q refl

-- nothing stands under a number behind all
pub places_at-push : (ls : List PlaceList) (new : PlaceList) → new.places.items ≡ [] → (q : ℕ) → places_at (ls ++ new ∷ []) q ≡ places_at ls q
places_at-push [] new e zero = e
places_at-push [] new e (suc q) = refl
places_at-push (l ∷ ls) new e zero = refl
places_at-push (l ∷ ls) new e (suc q) = places_at-push ls new e q

last_any : (p : ℕ) (xs : List ℕ) → list_any (λ x. x == p) (xs ++ p ∷ []) ≡ true
last_any p xs =
    list_any-append (λ x. x == p) xs (p ∷ [])
    ∙ or_right (list_any (λ x. x == p) xs) ((p == p) || false) (or_left (p == p) false ((Decides-eqb p p).1 refl))

more_any : (p : ℕ) (xs ys : List ℕ) → list_any (λ x. x == p) xs ≡ true → list_any (λ x. x == p) (xs ++ ys) ≡ true
more_any p xs ys e = list_any-append (λ x. x == p) xs ys ∙ or_left (list_any (λ x. x == p) xs) (list_any (λ x. x == p) ys) e

module _ (old new : Index) (number place : ℕ) (put : (q : ℕ) → places_at new.lists.items q ≡ places_at old.lists.items q ++ (if number == q then place ∷ [] else [])) where
  pub noted_there : (text : List ℕ) → number_of new.numbers text ≡ Some number → holds_place new text place
  noted_there text e =
      ap (λ o. list_any (λ p. p == place) (option_map_or (places_at new.lists.items) o [])) e
      ∙ ap (list_any (λ p. p == place)) (put number ∙ ap (λ b. places_at old.lists.items number ++ (if b then place ∷ [] else [])) ((Decides-eqb number number).1 refl))
      ∙ last_any place (places_at old.lists.items number)

  stays_step : (text : List ℕ) (p : ℕ) (o : Option ℕ) → number_of old.numbers text ≡ o → ((q : ℕ) → o ≡ Some q → number_of new.numbers text ≡ Some q) → list_any (λ x. x == p) (option_map_or (places_at old.lists.items) o []) ≡ true → holds_place new text p
  stays_step text p None e kept h = absurd (true≢false (sym h))
  stays_step text p (Some q) e kept h =
      ap (λ o. list_any (λ x. x == p) (option_map_or (places_at new.lists.items) o [])) (kept q refl)
      ∙ ap (list_any (λ x. x == p)) (put q)
      ∙ more_any p (places_at old.lists.items q) (if number == q then place ∷ [] else []) h

  pub noted_stays : ((text : List ℕ) (q : ℕ) → number_of old.numbers text ≡ Some q → number_of new.numbers text ≡ Some q) → (text : List ℕ) (p : ℕ) → holds_place old text p → holds_place new text p
  noted_stays kept text p h = stays_step text p (number_of old.numbers text) refl (kept text) h

pub either_true : (b c : Bool) → (b || c) ≡ true → {A : Type 0} → (b ≡ true → A) → (c ≡ true → A) → A
either_true true c e l r = l refl
either_true false c e l r = r e

below : (m n : ℕ) → m < n + 1 → (m ≡ n → ⊥) → m < n
below zero zero lt apart = absurd (apart refl)
below zero (suc n) lt apart = omega arith
below (suc m) zero lt apart = absurd (omega (arith, lt))
below (suc m) (suc n) lt apart = let r : m < n = below m n (omega (arith, lt)) (λ e. apart (ap suc e)) in omega (arith, r)

-- ---- one element more

module _ {A : Type 0} (P : Index → ℕ → A → Type 0) (list : List A) where
  -- of the first elements
  abbrev pub HoldsFirst : Index → ℕ → Type 0
  HoldsFirst x i = (j : ℕ) (a : A) → j < i → slice_get list j ≡ Some a → P x j a

  some_same : (o p : Option A) (a b : A) → o ≡ Some a → p ≡ Some b → o ≡ p → a ≡ b
  some_same o p a b e f same = ap (λ (q : Option A). option_map_or (λ y. y) q a) (sym e ∙ same ∙ f)

  more_step : (old new : Index) (i : ℕ) (a : A) → slice_get list i ≡ Some a → P new i a → ((j : ℕ) (b : A) → P old j b → P new j b) → HoldsFirst old i → (j : ℕ) (b : A) → j < i + 1 → slice_get list j ≡ Some b → (t : Bool) → (j == i) ≡ t → P new j b
  more_step old new i a at there kept h j b lt e true same =
      let ji : j ≡ i = (Decides-eqb j i).0 same in
      subst (λ k. P new k b) (sym ji) (subst (P new i) (some_same (slice_get list i) (slice_get list j) a b at e (ap (slice_get list) (sym ji))) there)
  more_step old new i a at there kept h j b lt e false apart =
      kept j b (h j b (below j i lt (λ same. true≢false (sym ((Decides-eqb j i).1 same) ∙ apart))) e)

  pub first_more : (old new : Index) (i : ℕ) (a : A) → slice_get list i ≡ Some a → P new i a → ((j : ℕ) (b : A) → P old j b → P new j b) → HoldsFirst old i → HoldsFirst new (i + 1)
  first_more old new i a at there kept h j b lt e = more_step old new i a at there kept h j b lt e (j == i) refl

  pub all_held : (x : Index) (n : ℕ) → length list ≤ n → HoldsFirst x n → (j : ℕ) (a : A) → slice_get list j ≡ Some a → P x j a
  all_held x n all h j a e = h j a (let lt = slice_get_within list j a e in omega (arith, lt, all)) e

-- ---- a list that is looked through

module _ (test : ℕ → Bool) (ps : List ℕ) (i : ℕ) (lt : i < length ps) (whole : Bool) (so : list_any test (drop i ps) ≡ whole) where
  begins : list_any test (drop i ps) ≡ (test (get_or ps i 0) || list_any test (drop (i + 1) ps))
  begins = ap (list_any test) (drop_more ps i 0 lt)

  pub any_here : test (get_or ps i 0) ≡ true → true ≡ whole
  any_here t = sym (ap (λ b. b || list_any test (drop (i + 1) ps)) t) ∙ sym begins ∙ so

  pub any_on : test (get_or ps i 0) ≡ false → list_any test (drop (i + 1) ps) ≡ whole
  any_on f = sym (ap (λ b. b || list_any test (drop (i + 1) ps)) f) ∙ sym begins ∙ so

-- ---- what is found

module _ {A : Type 0} (test : A → Bool) where
  at_one : (list : List A) (p : ℕ) → passes_at test list p ≡ true → list_any test list ≡ true
  at_one [] p h = absurd (true≢false (sym h))
  at_one (x ∷ list) zero h = or_left (test x) (list_any test list) h
  at_one (x ∷ list) (suc p) h = or_right (test x) (list_any test list) (at_one list p h)

  at_some : (list : List A) (ps : List ℕ) → list_any (passes_at test list) ps ≡ true → list_any test list ≡ true
  at_some list [] h = absurd (true≢false (sym h))
  at_some list (p ∷ ps) h = either_true (passes_at test list p) (list_any (passes_at test list) ps) h (at_one list p) (at_some list ps)

  held_passes : (list : List A) (ps : List ℕ) (j : ℕ) → passes_at test list j ≡ true → list_any (λ p. p == j) ps ≡ true → list_any (passes_at test list) ps ≡ true
  held_passes list [] j t h = absurd (true≢false (sym h))
  held_passes list (p ∷ ps) j t h =
      either_true (p == j) (list_any (λ x. x == j) ps) h
      (λ e. or_left (passes_at test list p) (list_any (passes_at test list) ps) (ap (passes_at test list) ((Decides-eqb p j).0 e) ∙ t))
      (λ e. or_right (passes_at test list p) (list_any (passes_at test list) ps) (held_passes list ps j t e))

  -- an element that passes, with its place
  pub record Standing (list : List A) : Type 0 where
    pub place : ℕ
    pub element : A
    pub at : slice_get list place ≡ Some element
    pub passes : test element ≡ true

  standing : (list : List A) → list_any test list ≡ true → Standing list
  standing [] h = absurd (true≢false (sym h))
  standing (x ∷ list) h =
      either_true (test x) (list_any test list) h
      (λ e. record { place = 0; element = x; at = refl; passes = e })
      (λ e. let r = standing list e in record { place = suc r.place; element = r.element; at = r.at; passes = r.passes })

  agree : (b c : Bool) → (b ≡ true → c ≡ true) → (c ≡ true → b ≡ true) → b ≡ c
  agree true c f g = sym (f refl)
  agree false true f g = g refl
  agree false false f g = refl

  module _ (list : List A) (x : Index) (t : List ℕ) (held : (j : ℕ) (a : A) → slice_get list j ≡ Some a → test a ≡ true → holds_place x t j) where
    found_from : list_any test list ≡ true → list_any (passes_at test list) (places_under x t) ≡ true
    found_from h =
        let r = standing list h in
        held_passes list (places_under x t) r.place (ap (λ o. option_map_or test o false) r.at ∙ r.passes) (held r.place r.element r.at r.passes)

    -- among those that stand under the text
    pub found_under : list_any (passes_at test list) (places_under x t) ≡ list_any test list
    found_under = agree (list_any (passes_at test list) (places_under x t)) (list_any test list) (at_some list (places_under x t)) found_from
