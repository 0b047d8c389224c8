-- How many elements of a list pass a test.
use Rattle.std.proofs.Common.{◌≡◌, ◌∙◌, inl, inr, ℕ, suc, ◌<◌, ◌≤◌, List, [], ◌∷◌, length, refl, sym, ap, Bool, true, false, cond, arith}
use Rattle.std.specs.List.{filter, AllByRecursion}
use Rattle.spool_spec.proofs.of_plain_laws.Booleans.{no_truth}
use Rattle.history_laws.proofs.Members.{Among}

module _ {X : Type 0} where
  more_step : (b c : Bool) (x : X) (xs ys : List X) → (b ≡ true → c ≡ true) → length xs ≤ length ys → length (cond b (x ∷ xs) xs) ≤ length (cond c (x ∷ ys) ys)
  more_step true true x xs ys h le = omega (arith, le)
  more_step true false x xs ys h le = no_truth (h refl)
  more_step false true x xs ys h le = omega (arith, le)
  more_step false false x xs ys h le = le

  -- a test that passes wherever another does counts no fewer
  pub count-more : (p q : X → Bool) → ((x : X) → p x ≡ true → q x ≡ true) → (xs : List X) → length (filter p xs) ≤ length (filter q xs)
  count-more p q h [] = omega arith
  count-more p q h (x ∷ xs) = more_step (p x) (q x) x (filter p xs) (filter q xs) (h x) (count-more p q h xs)

  whole_step : (b : Bool) (x : X) (xs : List X) (n : ℕ) → b ≡ true → length xs ≡ n → length (cond b (x ∷ xs) xs) ≡ suc n
  whole_step true x xs n e h = ap suc h
  whole_step false x xs n e h = no_truth e

  -- where all pass, as many as there are
  pub count-all : (p : X → Bool) (xs : List X) → AllByRecursion (λ x. p x ≡ true) xs → length (filter p xs) ≡ length xs
  count-all p [] h = refl
  count-all p (x ∷ xs) h = whole_step (p x) x (filter p xs) (length xs) h.0 (count-all p xs h.1)

  pub count-most : (p : X → Bool) (xs : List X) → length (filter p xs) ≤ length xs
  count-most p [] = omega arith
  count-most p (x ∷ xs) = most_step (p x) x (filter p xs) (length xs) (count-most p xs)
    where
      most_step : (b : Bool) (x : X) (ys : List X) (n : ℕ) → length ys ≤ n → length (cond b (x ∷ ys) ys) ≤ suc n
      most_step true x ys n h = omega (arith, h)
      most_step false x ys n h = omega (arith, h)

  fewer_step : (b : Bool) (x : X) (xs : List X) (n : ℕ) → length xs < n → length (cond b (x ∷ xs) xs) < suc n
  fewer_step true x xs n h = omega (arith, h)
  fewer_step false x xs n h = omega (arith, h)

  left_out : (b : Bool) (x : X) (xs : List X) (n : ℕ) → b ≡ false → length xs ≤ n → length (cond b (x ∷ xs) xs) < suc n
  left_out true x xs n e h = no_truth (sym e)
  left_out false x xs n e h = omega (arith, h)

  -- where one doesn't pass, fewer than there are
  pub count-fewer : (p : X → Bool) (xs : List X) (y : X) → Among y xs → p y ≡ false → length (filter p xs) < length xs
  count-fewer p [] y a e = absurd a
  count-fewer p (x ∷ xs) y (inl same) e = left_out (p x) x (filter p xs) (length xs) (ap p (sym same) ∙ e) (count-most p xs)
  count-fewer p (x ∷ xs) y (inr a) e = fewer_step (p x) x (filter p xs) (length xs) (count-fewer p xs y a e)
