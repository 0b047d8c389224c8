-- Places that rise through two tests are those of either.
use Rattle.std.proofs.Common.{◌≡◌, ◌∙◌, ◌<◌, ◌≤◌, ℕ, zero, suc, List, [], ◌∷◌, ◌++◌, length, get_or, refl, sym, ap, Bool, true, false, ◌&&◌, ◌||◌, if◌then◌else◌, arith}
use Rattle.std.specs.Prelude.{nat_lt}
use Rattle.std.specs.Borrow.{Bor}
use Rattle.std.specs.List.{list_any}
use Rattle.std.specs.Str.{bytes_eq}
use Rattle.fleet_tables.proofs.of_plain_laws.Booleans.{or_right}
use Rattle.fleet_tables.specs.Spans.{places_from}
use Rattle.query_reach.specs.Seen.{texts_seen}
use Rattle.query_reading.specs.Joins.{below, stands_behind, is_among}

lt_true : (a b : ℕ) → nat_lt a b ≡ true → a < b
lt_true a b h = grind (arith, h)

-- ---- the last of some places

pub below_last : (xs : List ℕ) (n y d : ℕ) → length xs ≡ suc n → below xs y ≡ nat_lt (get_or xs n d) y
below_last [] n y d h = absurd (omega (arith, h))
below_last (x ∷ []) n y d h = let one : 0 ≡ n = omega (arith, h) in ap (λ k. nat_lt (get_or (x ∷ []) k d) y) one
below_last (x ∷ x' ∷ xs) zero y d h = absurd (omega (arith, h))
below_last (x ∷ x' ∷ xs) (suc n) y d h = below_last (x' ∷ xs) n y d (omega (arith, h))

pub among_last : (xs : List (Bor (List ℕ))) (n : ℕ) (t : List ℕ) (d : Bor (List ℕ)) → length xs ≡ suc n → bytes_eq t (get_or xs n d).now ≡ true → is_among (texts_seen xs) t ≡ true
among_last [] n t d h e = absurd (omega (arith, h))
among_last (x ∷ xs) zero t d h e = ap (λ b. b || list_any (bytes_eq t) (texts_seen xs)) e
among_last (x ∷ xs) (suc n) t d h e = or_right (bytes_eq t x.now) (list_any (bytes_eq t) (texts_seen xs)) (among_last xs n t d (omega (arith, h)) e)

-- ---- one more place in front of the others

no_last : (k y : ℕ) (rest : List ℕ) → y ≤ k → (below rest y ≡ true → rest ≡ []) → below (k ∷ rest) y ≡ true → ⊥
no_last k y [] le ih h = omega (arith, le, lt_true k y h)
no_last k y (r ∷ rest) le ih h = let e : (r ∷ rest) ≡ [] = ih h in cc

module _ {A : Type 0} (p q : A → Bool) where
  -- places from k on have no last one that is below k
  none_step : (b : Bool) (k y : ℕ) (rest : List ℕ) → y ≤ k → (below rest y ≡ true → rest ≡ []) → below (if b then k ∷ rest else rest) y ≡ true → (if b then k ∷ rest else rest) ≡ []
  none_step true k y rest le ih h = absurd (no_last k y rest le ih h)
  none_step false k y rest le ih h = ih h

  none_below : (k y : ℕ) (xs : List A) → y ≤ k → below (places_from k p xs) y ≡ true → places_from k p xs ≡ []
  none_below k y [] le h = refl
  none_below k y (x ∷ xs) le h = none_step (p x) k y (places_from (suc k) p xs) le (none_below (suc k) y xs (omega (arith, le))) h

  behind_rest : (k : ℕ) (ps qs : List ℕ) → stands_behind (k ∷ ps) qs ≡ true → stands_behind ps qs ≡ true
  behind_rest k ps [] h = refl
  behind_rest k [] (y ∷ qs) h = refl
  behind_rest k (x ∷ ps) (y ∷ qs) h = h

  behind_none : (ps qs : List ℕ) → ps ≡ [] → stands_behind ps qs ≡ true
  behind_none [] [] e = refl
  behind_none [] (y ∷ qs) e = refl
  behind_none (x ∷ ps) qs e = cc

  union_step : (a b : Bool) (k : ℕ) (ps qs whole : List ℕ) → (below ps k ≡ true → ps ≡ []) → (stands_behind ps qs ≡ true → ps ++ qs ≡ whole)
      → stands_behind (if a then k ∷ ps else ps) (if b then k ∷ qs else qs) ≡ true → (if a then k ∷ ps else ps) ++ (if b then k ∷ qs else qs) ≡ (if (a || b) then k ∷ whole else whole)
  union_step true true k ps qs whole low ih h = absurd (no_last k k ps (omega arith) low h)
  union_step true false k ps qs whole low ih h = ap (λ l. k ∷ l) (ih (behind_rest k ps qs h))
  union_step false true k ps qs whole low ih h =
      let none : ps ≡ [] = low h in
      ap (λ l. l ++ k ∷ qs) none ∙ ap (λ l. k ∷ l) (sym (ap (λ l. l ++ qs) none) ∙ ih (behind_none ps qs none))
  union_step false false k ps qs whole low ih h = ih h

  pub union_from : (k : ℕ) (xs : List A) → stands_behind (places_from k p xs) (places_from k q xs) ≡ true → places_from k p xs ++ places_from k q xs ≡ places_from k (λ x. p x || q x) xs
  union_from k [] h = refl
  union_from k (x ∷ xs) h =
      union_step (p x) (q x) k (places_from (suc k) p xs) (places_from (suc k) q xs) (places_from (suc k) (λ y. p y || q y) xs)
      (none_below (suc k) k xs (omega arith)) (union_from (suc k) xs) h

-- ---- a node more

pub either_and : (a b c : Bool) → ((a && c) || (b && c)) ≡ ((a || b) && c)
either_and true true true = refl
either_and true true false = refl
either_and true false true = refl
either_and true false false = refl
either_and false true true = refl
either_and false true false = refl
either_and false false true = refl
either_and false false false = refl

pub or-false : (a : Bool) → (a || false) ≡ a
or-false true = refl
or-false false = refl
