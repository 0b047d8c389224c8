-- Of n + 1 elements of distinct ranks the n greatest are those that are left without the least.
use Rattle.std.proofs.Common.{◌≡◌, ◌∙◌, ℕ, suc, ◌+◌, ◌<◌, ◌≤◌, List, [], ◌∷◌, length, refl, sym, ap, subst, arith, Bool, true, false, not, ◌||◌, cond, if◌then◌else◌, inl, inr}
use Rattle.std.specs.Prelude.{nat_lt}
use Rattle.std.specs.Cmp.{IsTotalOrder}
use Rattle.std.specs.List.{filter, list_any}
use Rattle.std.specs.Ordering.{is_lt, match_ordering}
use Rattle.std.specs.declared.cmp.Ordering.{Ordering}
use Rattle.std.specs.declared.cmp.Ordering.TheVariants.{Less, Equal, Greater}
use Rattle.table_spec.proofs.of_plain_laws.Members.{Among}
use Rattle.history_laws.proofs.SameMembers.{passes_from_any, any_from_passes}
use Rattle.table_spec.proofs.of_plain_laws.Orderings.{less_is}
use Rattle.history_laws.proofs.Counts.{count-fewer}
use Rattle.history_laws.proofs.Filters.{filter-among}
use Rattle.table_machine.specs.Places.{put}
use Rattle.table_machine.proofs.Risen.{turned_less}
use Rattle.table_machine.proofs.Ranked.{count, count-failing, filter-every, beaten, top, Apart, not_beaten_by_less, not_beaten_by_itself}

module _ {X : Type 0} where
  both_counts : (a b : Bool) (p q : X → Bool) (x : X) (xs : List X) → a ≡ not b → count p xs + count q xs ≡ length xs → length (cond a (x ∷ filter p xs) (filter p xs)) + length (cond b (x ∷ filter q xs) (filter q xs)) ≡ suc (length xs)
  both_counts true true p q x xs e h = absurd (let apart : true ≡ false = e in cc)
  both_counts true false p q x xs e h = omega (arith, h)
  both_counts false true p q x xs e h = omega (arith, h)
  both_counts false false p q x xs e h = absurd (let apart : false ≡ true = e in cc)

  -- of two tests that each element passes one of
  count-both : (p q : X → Bool) (xs : List X) → ((x : X) → Among x xs → p x ≡ not (q x)) → count p xs + count q xs ≡ length xs
  count-both p q [] h = refl
  count-both p q (x ∷ xs) h = both_counts (p x) (q x) p q x xs (h x (inl refl)) (count-both p q xs (λ y a. h y (inr a)))

  any_step : (b : Bool) (p : X → Bool) (x : X) (xs : List X) → list_any p xs ≡ nat_lt 0 (count p xs) → (b || list_any p xs) ≡ nat_lt 0 (length (cond b (x ∷ filter p xs) (filter p xs)))
  any_step true p x xs h = grind arith
  any_step false p x xs h = h

  any-count : (p : X → Bool) (xs : List X) → list_any p xs ≡ nat_lt 0 (count p xs)
  any-count p [] = refl
  any-count p (x ∷ xs) = any_step (p x) p x xs (any-count p xs)

  longer_step : (place : X → Ordering) (new : X) (change : X → X) (y : X) (ys : List X) (q : Ordering) → length (put place new change ys) ≤ suc (length ys) → length (match_ordering q (new ∷ y ∷ ys) (change y ∷ ys) (y ∷ put place new change ys)) ≤ suc (suc (length ys))
  longer_step place new change y ys Less h = omega arith
  longer_step place new change y ys Equal h = omega arith
  longer_step place new change y ys Greater h = omega (arith, h)

  -- what is put makes a list longer by one at most
  pub put-longer : (place : X → Ordering) (new : X) (change : X → X) (ys : List X) → length (put place new change ys) ≤ suc (length ys)
  put-longer place new change [] = omega arith
  put-longer place new change (y ∷ ys) = longer_step place new change y ys (place y) (put-longer place new change ys)

less_passes : (a n : ℕ) → a < n → nat_lt a n ≡ true
less_passes a n h = grind arith

rest_of : (a b n : ℕ) → a + suc b ≡ suc n → nat_lt 0 a ≡ nat_lt b n
rest_of a b n h = grind arith

module _ {X : Type 0} (r : X → X → Ordering) (o : IsTotalOrder r) where
  -- the first that none behind it is below leaves
  abbrev pub without_least : List X → List X
  without_least [] = []
  without_least (x ∷ xs) = if list_any (λ y. beaten r o y x) xs then x ∷ without_least xs else xs

  exclusive : (p : Ordering) (x y : X) → r x y ≡ p → (r x y ≡ Equal → ⊥) → beaten r o x y ≡ not (is_lt p)
  exclusive Less x y e apart = not_beaten_by_less r o x y e
  exclusive Equal x y e apart = absurd (apart e)
  exclusive Greater x y e apart = ap is_lt (turned_less r o x y e)

  -- of two that are apart one beats the other
  one_beats : (x y : X) → (r x y ≡ Equal → ⊥) → beaten r o x y ≡ not (beaten r o y x)
  one_beats x y apart = exclusive (r x y) x y refl apart

  turned_not : (a b : Bool) → a ≡ not b → b ≡ not a
  turned_not true true h = absurd (let apart : true ≡ false = h in cc)
  turned_not true false h = refl
  turned_not false true h = refl
  turned_not false false h = absurd (let apart : false ≡ true = h in cc)

  beaten_through : (x y z : X) → beaten r o x y ≡ true → beaten r o y z ≡ true → beaten r o x z ≡ true
  beaten_through x y z h k = ap is_lt (o.trans z y x (less_is (r z y) k) (less_is (r y x) h))

  also_below : (b c : Bool) → (b ≡ true → c ≡ true) → c ≡ (b || c)
  also_below true c h = h refl
  also_below false c h = refl

  none_passes : (b : Bool) → b ≡ false → b ≡ true → ⊥
  none_passes b h k = let apart : true ≡ false = sym k ∙ h in cc

  not_true : (b : Bool) → (b ≡ true → ⊥) → b ≡ false
  not_true true h = absurd (h refl)
  not_true false h = refl

  or_true : (b c : Bool) → b ≡ true → (b || c) ≡ true
  or_true b c h = ap (λ d. d || c) h

  dropped : (b : Bool) (x : X) (ys zs : List X) → b ≡ false → ys ≡ zs → zs ≡ cond b (x ∷ ys) ys
  dropped true x ys zs e h = absurd (let apart : true ≡ false = e in cc)
  dropped false x ys zs e h = sym h

  stays : (b : Bool) (x : X) (ys : List X) → b ≡ true → x ∷ ys ≡ cond b (x ∷ ys) ys
  stays true x ys e = refl
  stays false x ys e = absurd (let apart : false ≡ true = e in cc)

  left_step : (b : Bool) (x : X) (xs : List X) → list_any (λ y. beaten r o y x) xs ≡ b → ((y : X) → Among y xs → r x y ≡ Equal → ⊥) → without_least xs ≡ filter (λ z. list_any (λ y. beaten r o y z) xs) xs
      → (if b then x ∷ without_least xs else xs) ≡ cond (beaten r o x x || b) (x ∷ filter (λ z. list_any (λ y. beaten r o y z) (x ∷ xs)) xs) (filter (λ z. list_any (λ y. beaten r o y z) (x ∷ xs)) xs)
  left_step true x xs e apart next =
      let one = passes_from_any (λ y. beaten r o y x) xs e in
      ap (λ l. x ∷ l) (next ∙ filter-among _ _ xs (λ z a. also_below (beaten r o x z) (list_any (λ y. beaten r o y z) xs) (λ below. any_from_passes (λ y. beaten r o y z) xs one.0 one.1 (beaten_through one.0 x z one.2 below))))
      ∙ stays (beaten r o x x || true) x (filter (λ z. list_any (λ y. beaten r o y z) (x ∷ xs)) xs) (ap (λ b. b || true) (not_beaten_by_itself r o x))
  left_step false x xs e apart next =
      dropped (beaten r o x x || false) x (filter (λ z. list_any (λ y. beaten r o y z) (x ∷ xs)) xs) xs
      (ap (λ b. b || false) (not_beaten_by_itself r o x))
      (filter-every (λ z. list_any (λ y. beaten r o y z) (x ∷ xs)) xs (λ z a.
      or_true (beaten r o x z) (list_any (λ y. beaten r o y z) xs)
      (one_beats x z (apart z a) ∙ ap not (not_true (beaten r o z x) (λ below. none_passes (list_any (λ y. beaten r o y x) xs) e (any_from_passes (λ y. beaten r o y x) xs z a below))))))

  -- what is left are those that something is below
  left_have_below : (xs : List X) → Apart r o xs → without_least xs ≡ filter (λ z. list_any (λ y. beaten r o y z) xs) xs
  left_have_below [] apart = refl
  left_have_below (x ∷ xs) apart = left_step (list_any (λ y. beaten r o y x) xs) x xs refl apart.0 (left_have_below xs apart.1)

  ranks_of_first : (x : X) (xs : List X) → ((y : X) → Among y xs → r x y ≡ Equal → ⊥) → count (λ y. beaten r o y x) (x ∷ xs) + suc (count (beaten r o x) (x ∷ xs)) ≡ suc (length xs)
  ranks_of_first x xs apart =
      let below = count-failing (λ y. beaten r o y x) x xs (not_beaten_by_itself r o x) in
      let above = count-failing (beaten r o x) x xs (not_beaten_by_itself r o x) in
      let all = count-both (λ y. beaten r o y x) (beaten r o x) xs (λ y a. turned_not (beaten r o x y) (beaten r o y x) (one_beats x y (apart y a))) in
      omega (arith, below, above, all)

  ranks_step : (a b : Bool) (z x : X) (xs : List X) → a ≡ not b → count (λ y. beaten r o y z) xs + suc (count (beaten r o z) xs) ≡ length xs
      → length (cond a (x ∷ filter (λ y. beaten r o y z) xs) (filter (λ y. beaten r o y z) xs)) + suc (length (cond b (x ∷ filter (beaten r o z) xs) (filter (beaten r o z) xs))) ≡ suc (length xs)
  ranks_step true true z x xs e h = absurd (let apart : true ≡ false = e in cc)
  ranks_step true false z x xs e h = omega (arith, h)
  ranks_step false true z x xs e h = omega (arith, h)
  ranks_step false false z x xs e h = absurd (let apart : false ≡ true = e in cc)

  -- those below one, those above it and itself are all
  ranks_add_up : (z : X) (xs : List X) → Apart r o xs → Among z xs → count (λ y. beaten r o y z) xs + suc (count (beaten r o z) xs) ≡ length xs
  ranks_add_up z [] apart a = absurd a
  ranks_add_up z (x ∷ xs) apart (inl same) = subst (λ w. count (λ y. beaten r o y w) (x ∷ xs) + suc (count (beaten r o w) (x ∷ xs)) ≡ suc (length xs)) (sym same) (ranks_of_first x xs apart.0)
  ranks_add_up z (x ∷ xs) apart (inr a) = ranks_step (beaten r o x z) (beaten r o z x) z x xs (one_beats x z (apart.0 z a)) (ranks_add_up z xs apart.1 a)

  pub least_leaves : (n : ℕ) (xs : List X) → Apart r o xs → length xs ≡ suc n → without_least xs ≡ top r o n xs
  least_leaves n xs apart e =
      left_have_below xs apart
      ∙ filter-among _ _ xs (λ z a. any-count (λ y. beaten r o y z) xs ∙ rest_of (count (λ y. beaten r o y z) xs) (count (beaten r o z) xs) n (ranks_add_up z xs apart a ∙ e))

  pub few_stay : (n : ℕ) (xs : List X) → length xs ≤ n → top r o n xs ≡ xs
  few_stay n xs h = filter-every _ xs (λ z a. let less = count-fewer (beaten r o z) xs z a (not_beaten_by_itself r o z) in less_passes (count (beaten r o z) xs) n (omega (arith, less)))

  limited_step : (b : Bool) (n : ℕ) (xs : List X) → nat_lt n (length xs) ≡ b → Apart r o xs → length xs ≤ suc n → (if b then without_least xs else xs) ≡ top r o n xs
  limited_step true n xs e apart h = least_leaves n xs apart (grind arith)
  limited_step false n xs e apart h = sym (few_stay n xs (grind arith))

  -- where they are one more than n at most
  pub limited-top : (n : ℕ) (xs : List X) → Apart r o xs → length xs ≤ suc n → (if nat_lt n (length xs) then without_least xs else xs) ≡ top r o n xs
  limited-top n xs apart h = limited_step (nat_lt n (length xs)) n xs refl apart h
