-- Lists of the same members.
use Rattle.std.proofs.Common.{◌≡◌, ◌∙◌, ◌↔◌, List, [], ◌∷◌, refl, sym, ap, Bool, true, false, ◌||◌, inl, inr}
use Rattle.std.specs.List.{Contains, filter, list_any}
use Rattle.spool_spec.proofs.of_plain_laws.Booleans.{no_truth}
use Rattle.history_laws.proofs.Members.{Among, Among-from_Contains, Contains-from_Among, Among-filter, Among-from_filter}

pub record SameMembers {X : Type 0} (xs ys : List X) : Type 0 where
  pub there : (x : X) → Among x xs → Among x ys
  pub back : (x : X) → Among x ys → Among x xs

agree : (b c : Bool) → (b ≡ true → c ≡ true) → (c ≡ true → b ≡ true) → b ≡ c
agree true c h k = sym (h refl)
agree false true h k = k refl
agree false false h k = refl

module _ {X : Type 0} where
  pub same_members-refl : (xs : List X) → SameMembers xs xs
  same_members-refl xs = record { there = λ x a. a; back = λ x a. a }

  pub same_members-through : (xs ys zs : List X) → SameMembers xs ys → SameMembers ys zs → SameMembers xs zs
  same_members-through xs ys zs h k = record { there = λ x a. k.there x (h.there x a); back = λ x a. h.back x (k.back x a) }

  one_more : (y : X) (xs ys : List X) → ((x : X) → Among x xs → Among x ys) → (x : X) → Among x (y ∷ xs) → Among x (y ∷ ys)
  one_more y xs ys h x (inl e) = inl e
  one_more y xs ys h x (inr a) = inr (h x a)

  pub same_members-cons : (y : X) (xs ys : List X) → SameMembers xs ys → SameMembers (y ∷ xs) (y ∷ ys)
  same_members-cons y xs ys h = record { there = one_more y xs ys h.there; back = one_more y ys xs h.back }

  turned : (y z : X) (xs : List X) (x : X) → Among x (y ∷ z ∷ xs) → Among x (z ∷ y ∷ xs)
  turned y z xs x (inl e) = inr (inl e)
  turned y z xs x (inr (inl e)) = inl e
  turned y z xs x (inr (inr a)) = inr (inr a)

  pub same_members-swapped : (y z : X) (xs : List X) → SameMembers (y ∷ z ∷ xs) (z ∷ y ∷ xs)
  same_members-swapped y z xs = record { there = turned y z xs; back = turned z y xs }

  left_by : (p q : X → Bool) (xs ys : List X) → ((x : X) → p x ≡ q x) → ((x : X) → Among x xs → Among x ys) → (x : X) → Among x (filter p xs) → Among x (filter q ys)
  left_by p q xs ys same h x a = let from = Among-from_filter p xs x a in Among-filter q ys x (h x from.0) (sym (same x) ∙ from.1)

  -- what two tests leave that agree
  pub same_members-filter : (p q : X → Bool) (xs ys : List X) → ((x : X) → p x ≡ q x) → SameMembers xs ys → SameMembers (filter p xs) (filter q ys)
  same_members-filter p q xs ys same h = record { there = left_by p q xs ys same h.there; back = left_by q p ys xs (λ x. sym (same x)) h.back }

  some_passes : (b : Bool) (p : X → Bool) (y : X) (ys : List X) → p y ≡ b → (b || list_any p ys) ≡ true → (list_any p ys ≡ true → (x : X) × Among x ys × (p x ≡ true)) → (x : X) × Among x (y ∷ ys) × (p x ≡ true)
  some_passes true p y ys e h next = (y, inl refl, e)
  some_passes false p y ys e h next = let rest = next h in (rest.0, inr rest.1, rest.2)

  pub passes_from_any : (p : X → Bool) (xs : List X) → list_any p xs ≡ true → (x : X) × Among x xs × (p x ≡ true)
  passes_from_any p [] h = no_truth h
  passes_from_any p (y ∷ ys) h = some_passes (p y) p y ys refl h (passes_from_any p ys)

  any_step : (b : Bool) (p : X → Bool) (y x : X) (ys : List X) → p y ≡ b → Among x (y ∷ ys) → p x ≡ true → (Among x ys → list_any p ys ≡ true) → (b || list_any p ys) ≡ true
  any_step true p y x ys e a h next = refl
  any_step false p y x ys e (inl same) h next = absurd (let both : p x ≡ p y = ap p same in cc)
  any_step false p y x ys e (inr a) h next = next a

  pub any_from_passes : (p : X → Bool) (xs : List X) (x : X) → Among x xs → p x ≡ true → list_any p xs ≡ true
  any_from_passes p [] x a h = absurd a
  any_from_passes p (y ∷ ys) x a h = any_step (p y) p y x ys refl a h (λ b. any_from_passes p ys x b h)

  one_passes : (p : X → Bool) (xs ys : List X) → ((x : X) → Among x xs → Among x ys) → list_any p xs ≡ true → list_any p ys ≡ true
  one_passes p xs ys h any = let one = passes_from_any p xs any in any_from_passes p ys one.0 (h one.0 one.1) one.2

  pub same_members-any : (p : X → Bool) (xs ys : List X) → SameMembers xs ys → list_any p xs ≡ list_any p ys
  same_members-any p xs ys h = agree (list_any p xs) (list_any p ys) (one_passes p xs ys h.there) (one_passes p ys xs h.back)

  pub same_members-Contains : (xs ys : List X) (x : X) → SameMembers xs ys → Contains xs x ↔ Contains ys x
  same_members-Contains xs ys x h =
      (λ c. Contains-from_Among ys x (h.there x (Among-from_Contains xs x c)), λ c. Contains-from_Among xs x (h.back x (Among-from_Contains ys x c)))
