-- Of elements of distinct ranks those of the greatest: the first so many of a list that falls by rank.
use Rattle.std.proofs.Common.{◌≡◌, ◌∙◌, ℕ, zero, suc, ◌≤◌, List, [], ◌∷◌, length, take, refl, sym, ap, arith, Bool, true, false, cond, inl, inr}
use Rattle.std.specs.Prelude.{nat_lt}
use Rattle.std.specs.Cmp.{IsTotalOrder}
use Rattle.std.specs.List.{filter}
use Rattle.std.specs.List.Sorted.{IsStrictlySortedBy}
use Rattle.std.specs.Ordering.{is_lt, match_ordering}
use Rattle.std.specs.declared.cmp.Ordering.{Ordering}
use Rattle.std.specs.declared.cmp.Ordering.TheVariants.{Less, Equal, Greater}
use Rattle.std.proofs.lemmas.Cmp.{alike_right, tied_itself, tied_back}
use Rattle.table_spec.proofs.of_plain_laws.Members.{Among}
use Rattle.table_spec.proofs.of_plain_laws.StrictlySorted.{sorted-below, sorted-rest, not_both}
use Rattle.table_machine.specs.Places.{put, sorted}
use Rattle.history_laws.proofs.Filters.{filter-among, filter-same}
use Rattle.table_machine.proofs.Risen.{KeysTell, sorted-sorted, filter-sorted, among-from_sorted}

-- ---- counts

module _ {X : Type 0} where
  abbrev pub count : (X → Bool) → List X → ℕ
  count p xs = length (filter p xs)

  none_step : (b : Bool) (p : X → Bool) (x : X) (xs : List X) → b ≡ false → filter p xs ≡ [] → cond b (x ∷ filter p xs) (filter p xs) ≡ []
  none_step true p x xs e h = absurd (let apart : true ≡ false = e in cc)
  none_step false p x xs e h = h

  pub filter-none : (p : X → Bool) (xs : List X) → ((x : X) → Among x xs → p x ≡ false) → filter p xs ≡ []
  filter-none p [] h = refl
  filter-none p (x ∷ xs) h = none_step (p x) p x xs (h x (inl refl)) (filter-none p xs (λ y a. h y (inr a)))

  all_step : (b : Bool) (p : X → Bool) (x : X) (xs : List X) → b ≡ true → filter p xs ≡ xs → cond b (x ∷ filter p xs) (filter p xs) ≡ x ∷ xs
  all_step true p x xs e h = ap (λ ys. x ∷ ys) h
  all_step false p x xs e h = absurd (let apart : false ≡ true = e in cc)

  pub filter-every : (p : X → Bool) (xs : List X) → ((x : X) → Among x xs → p x ≡ true) → filter p xs ≡ xs
  filter-every p [] h = refl
  filter-every p (x ∷ xs) h = all_step (p x) p x xs (h x (inl refl)) (filter-every p xs (λ y a. h y (inr a)))

  passing : (b : Bool) (p : X → Bool) (x : X) (xs : List X) → b ≡ true → length (cond b (x ∷ filter p xs) (filter p xs)) ≡ suc (count p xs)
  passing true p x xs e = refl
  passing false p x xs e = absurd (let apart : false ≡ true = e in cc)

  failing : (b : Bool) (p : X → Bool) (x : X) (xs : List X) → b ≡ false → length (cond b (x ∷ filter p xs) (filter p xs)) ≡ count p xs
  failing true p x xs e = absurd (let apart : true ≡ false = e in cc)
  failing false p x xs e = refl

  pub count-passing : (p : X → Bool) (x : X) (xs : List X) → p x ≡ true → count p (x ∷ xs) ≡ suc (count p xs)
  count-passing p x xs e = passing (p x) p x xs e

  pub count-failing : (p : X → Bool) (x : X) (xs : List X) → p x ≡ false → count p (x ∷ xs) ≡ count p xs
  count-failing p x xs e = failing (p x) p x xs e

take_at_most : {X : Type 0} (n : ℕ) (xs : List X) → length (take n xs) ≤ n
take_at_most zero xs = omega arith
take_at_most (suc n) [] = omega arith
take_at_most (suc n) (x ∷ xs) = let rest = take_at_most n xs in omega (arith, rest)

not_below_zero : (n : ℕ) → nat_lt n 0 ≡ false
not_below_zero n = grind arith

suc_below : (n m : ℕ) → nat_lt (suc n) (suc m) ≡ nat_lt n m
suc_below n m = grind arith

-- ---- an order by rank, the greatest first

module _ {X : Type 0} (r : X → X → Ordering) (o : IsTotalOrder r) where
  -- y is of a greater rank than x
  abbrev pub beaten : X → X → Bool
  beaten x y = is_lt (r y x)

  -- those that fewer than n of the list beat
  abbrev pub top : ℕ → List X → List X
  top n xs = filter (λ x. nat_lt (count (beaten x) xs) n) xs

  -- no two have one rank
  abbrev pub Apart : List X → Type 0
  Apart [] = Unit {0}
  Apart (x ∷ xs) = ((y : X) → Among y xs → r x y ≡ Equal → ⊥) × Apart xs

  less_back : (p : Ordering) (x y : X) → r x y ≡ Less → r y x ≡ p → is_lt p ≡ false
  less_back Less x y h e = absurd (not_both r o x y h e)
  less_back Equal x y h e = refl
  less_back Greater x y h e = refl

  pub not_beaten_by_less : (x y : X) → r x y ≡ Less → beaten x y ≡ false
  not_beaten_by_less x y h = less_back (r y x) x y h refl

  pub not_beaten_by_itself : (x : X) → beaten x x ≡ false
  not_beaten_by_itself x = ap is_lt (tied_itself o x)

  first_unbeaten : (x y : X) (xs : List X) → IsStrictlySortedBy r (x ∷ xs) → Among y (x ∷ xs) → beaten x y ≡ false
  first_unbeaten x y xs s (inl same) = ap (beaten x) same ∙ not_beaten_by_itself x
  first_unbeaten x y xs s (inr a) = not_beaten_by_less x y (sorted-below r x xs s y a)

  beaten_by_first : (x y : X) (xs : List X) → IsStrictlySortedBy r (x ∷ xs) → Among y xs → beaten y x ≡ true
  beaten_by_first x y xs s a = ap is_lt (sorted-below r x xs s y a)

  one_first : (n : ℕ) (x : X) (xs : List X) → IsStrictlySortedBy r (x ∷ xs) → nat_lt (count (beaten x) (x ∷ xs)) (suc n) ≡ true
  one_first n x xs s = ap (λ (ys : List X). nat_lt (length ys) (suc n)) (filter-none (beaten x) (x ∷ xs) (λ y a. first_unbeaten x y xs s a)) ∙ grind arith

  one_further : (n : ℕ) (x y : X) (xs : List X) → IsStrictlySortedBy r (x ∷ xs) → Among y xs → nat_lt (count (beaten y) (x ∷ xs)) (suc n) ≡ nat_lt (count (beaten y) xs) n
  one_further n x y xs s a = ap (λ m. nat_lt m (suc n)) (count-passing (beaten y) x xs (beaten_by_first x y xs s a)) ∙ suc_below (count (beaten y) xs) n

  kept_first : (b : Bool) (p : X → Bool) (x : X) (xs ys : List X) → b ≡ true → filter p xs ≡ ys → cond b (x ∷ filter p xs) (filter p xs) ≡ x ∷ ys
  kept_first true p x xs ys e h = ap (λ zs. x ∷ zs) h
  kept_first false p x xs ys e h = absurd (let apart : false ≡ true = e in cc)

  pub top-take : (n : ℕ) (xs : List X) → IsStrictlySortedBy r xs → top n xs ≡ take n xs
  top-take zero xs s = filter-none (λ x. nat_lt (count (beaten x) xs) 0) xs (λ x a. not_below_zero (count (beaten x) xs))
  top-take (suc n) [] s = refl
  top-take (suc n) (x ∷ xs) s =
      kept_first (nat_lt (count (beaten x) (x ∷ xs)) (suc n)) (λ y. nat_lt (count (beaten y) (x ∷ xs)) (suc n)) x xs (take n xs) (one_first n x xs s)
      (filter-among (λ y. nat_lt (count (beaten y) (x ∷ xs)) (suc n)) (λ y. nat_lt (count (beaten y) xs) n) xs (λ y a. one_further n x y xs s a)
      ∙ top-take n xs (sorted-rest r x xs s))

  -- ---- sorting changes no count

  swapped : (a b : Bool) (p : X → Bool) (x y : X) (xs zs : List X) → count p zs ≡ length (cond a (x ∷ filter p xs) (filter p xs)) → length (cond b (y ∷ filter p zs) (filter p zs)) ≡ length (cond a (x ∷ cond b (y ∷ filter p xs) (filter p xs)) (cond b (y ∷ filter p xs) (filter p xs)))
  swapped true true p x y xs zs h = ap suc h
  swapped true false p x y xs zs h = h
  swapped false true p x y xs zs h = ap suc h
  swapped false false p x y xs zs h = h

  count_step : (p : X → Bool) (x y : X) (ys : List X) (q : Ordering) → r x y ≡ q → (r x y ≡ Equal → ⊥) → count p (put (r x) x (λ z. z) ys) ≡ count p (x ∷ ys) → count p (match_ordering q (x ∷ y ∷ ys) (y ∷ ys) (y ∷ put (r x) x (λ z. z) ys)) ≡ count p (x ∷ y ∷ ys)
  count_step p x y ys Less e apart next = refl
  count_step p x y ys Equal e apart next = absurd (apart e)
  count_step p x y ys Greater e apart next = swapped (p x) (p y) p x y ys (put (r x) x (λ z. z) ys) next

  count-put : (p : X → Bool) (x : X) (ys : List X) → ((y : X) → Among y ys → r x y ≡ Equal → ⊥) → count p (put (r x) x (λ z. z) ys) ≡ count p (x ∷ ys)
  count-put p x [] apart = refl
  count-put p x (y ∷ ys) apart = count_step p x y ys (r x y) refl (apart y (inl refl)) (count-put p x ys (λ z a. apart z (inr a)))

  count_more : (b : Bool) (p : X → Bool) (x : X) (ys zs : List X) → count p ys ≡ count p zs → length (cond b (x ∷ filter p ys) (filter p ys)) ≡ length (cond b (x ∷ filter p zs) (filter p zs))
  count_more true p x ys zs h = ap suc h
  count_more false p x ys zs h = h

  pub count-sorted : (p : X → Bool) (xs : List X) → Apart xs → count p (sorted r xs) ≡ count p xs
  count-sorted p [] apart = refl
  count-sorted p (x ∷ xs) apart =
      count-put p x (sorted r xs) (λ y a. apart.0 y (among-from_sorted r o y xs a))
      ∙ count_more (p x) p x (sorted r xs) xs (count-sorted p xs apart.1)

  filtered_sorted : (n : ℕ) (xs : List X) → Apart xs → filter (λ x. nat_lt (count (beaten x) xs) n) (sorted r xs) ≡ take n (sorted r xs)
  filtered_sorted n xs apart =
      filter-same _ _ (λ x. ap (λ m. nat_lt m n) (sym (count-sorted (beaten x) xs apart))) (sorted r xs)
      ∙ top-take n (sorted r xs) (sorted-sorted r o xs)

  pub top-at_most : (n : ℕ) (xs : List X) → Apart xs → length (top n xs) ≤ n
  top-at_most n xs apart =
      let same : count (λ x. nat_lt (count (beaten x) xs) n) (sorted r xs) ≡ length (top n xs) = count-sorted (λ x. nat_lt (count (beaten x) xs) n) xs apart in
      let taken : length (take n (sorted r xs)) ≡ length (top n xs) = ap length (sym (filtered_sorted n xs apart)) ∙ same in
      omega (arith, taken, take_at_most n (sorted r xs))

  -- the greatest of a list, by rank
  pub top-sorted : (n : ℕ) (xs : List X) → Apart xs → sorted r (top n xs) ≡ take n (sorted r xs)
  top-sorted n xs apart =
      sym (filter-sorted r o (λ x. nat_lt (count (beaten x) xs) n) (λ x y tied. ap (λ (p : X → Bool). nat_lt (count p xs) n) (λ i z. is_lt (alike_right o x y z tied i))) xs)
      ∙ filtered_sorted n xs apart

  -- ---- lists that no two of one rank stand in

  pub apart-tells : (xs : List X) → Apart xs → KeysTell r o xs
  apart-tells [] h x y a d tied = absurd a
  apart-tells (z ∷ xs) h x y (inl e) (inl f) tied = e ∙ sym f
  apart-tells (z ∷ xs) h x y (inl e) (inr d) tied = absurd (h.0 y d (ap (λ w. r w y) (sym e) ∙ tied))
  apart-tells (z ∷ xs) h x y (inr a) (inl f) tied = absurd (h.0 x a (ap (λ w. r w x) (sym f) ∙ tied_back o x y tied))
  apart-tells (z ∷ xs) h x y (inr a) (inr d) tied = apart-tells xs h.1 x y a d tied

  -- what rises by another order and is told by its ranks
  pub apart-risen : (c : X → X → Ordering) → IsTotalOrder c → (xs : List X) → IsStrictlySortedBy c xs → KeysTell r o xs → Apart xs
  apart-risen c t [] s tell = tt
  apart-risen c t (x ∷ xs) s tell = (
    λ y a tied. absurd (let below : c x y ≡ Less = sorted-below c x xs s y a in let same : y ≡ x = sym (tell x y (inl refl) (inr a) tied) in let apart : Less ≡ Equal = sym below ∙ ap (c x) same ∙ tied_itself t x in cc),
    apart-risen c t xs (sorted-rest c x xs s) (λ y z a b. tell y z (inr a) (inr b)),
  )
