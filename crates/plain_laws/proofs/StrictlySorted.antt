-- Lists that are strictly sorted by an order.
use Rattle.std.proofs.Common.{◌≡◌, ◌∙◌, List, [], ◌∷◌, ◌++◌, map, refl, sym, ap, inl, inr}
use Rattle.std.specs.List.{flat_map}
use Rattle.std.specs.List.Sorted.{IsStrictlySortedBy}
use Rattle.std.specs.Cmp.{IsTotalOrder}
use Rattle.std.specs.Ordering.{ordering_reverse}
use Rattle.std.specs.declared.cmp.Ordering.{Ordering}
use Rattle.std.specs.declared.cmp.Ordering.TheVariants.{Less, Equal, Greater}
use Rattle.std.proofs.lemmas.Cmp.{tied_itself}
use Rattle.plain_laws.proofs.Members.{Among, Among-append_cases, All-Among, All-from_Among, Among-from_map, Among-from_flat_map}

module _ {K : Type 0} (c : K → K → Ordering) where
  pub sorted-nil : IsStrictlySortedBy c []
  unfolding IsStrictlySortedBy
  sorted-nil = tt

  pub sorted-cons : (x : K) (xs : List K) → ((y : K) → Among y xs → c x y ≡ Less) → IsStrictlySortedBy c xs → IsStrictlySortedBy c (x ∷ xs)
  unfolding IsStrictlySortedBy
  sorted-cons x xs h s = (All-from_Among (λ y. c x y ≡ Less) xs h, s)

  pub sorted-below : (x : K) (xs : List K) → IsStrictlySortedBy c (x ∷ xs) → (y : K) → Among y xs → c x y ≡ Less
  unfolding IsStrictlySortedBy
  sorted-below x xs s y a = All-Among (λ z. c x z ≡ Less) xs y s.0 a

  pub sorted-rest : (x : K) (xs : List K) → IsStrictlySortedBy c (x ∷ xs) → IsStrictlySortedBy c xs
  unfolding IsStrictlySortedBy
  sorted-rest x xs s = s.1

  pub sorted-append : (xs ys : List K) → IsStrictlySortedBy c xs → IsStrictlySortedBy c ys → ((x y : K) → Among x xs → Among y ys → c x y ≡ Less) → IsStrictlySortedBy c (xs ++ ys)
  sorted-append [] ys s t h = t
  sorted-append (x ∷ xs) ys s t h =
      sorted-cons x (xs ++ ys)
      (λ y a. elim (Among-append_cases xs ys y a) [ inl b ↦ sorted-below x xs s y b | inr b ↦ h x y (inl refl) b ])
      (sorted-append xs ys (sorted-rest x xs s) t (λ z y a b. h z y (inr a) b))

-- images that keep the order
pub sorted-map : {K J : Type 0} (c : K → K → Ordering) (d : J → J → Ordering) (f : K → J) → ((x y : K) → c x y ≡ Less → d (f x) (f y) ≡ Less) → (xs : List K) → IsStrictlySortedBy c xs → IsStrictlySortedBy d (map f xs)
sorted-map c d f keep [] s = sorted-nil d
sorted-map c d f keep (x ∷ xs) s =
    sorted-cons d (f x) (map f xs)
    (λ y a. let image = Among-from_map f xs y a in rw image.2 (keep x image.0 (sorted-below c x xs s image.0 image.1)))
    (sorted-map c d f keep xs (sorted-rest c x xs s))

-- blocks in order
pub sorted-flat_map : {K J : Type 0} (c : K → K → Ordering) (d : J → J → Ordering) (f : K → List J) → ((x : K) → IsStrictlySortedBy d (f x)) → ((x y : K) (i j : J) → c x y ≡ Less → Among i (f x) → Among j (f y) → d i j ≡ Less) → (xs : List K) → IsStrictlySortedBy c xs → IsStrictlySortedBy d (flat_map f xs)
sorted-flat_map c d f each across [] s = sorted-nil d
sorted-flat_map c d f each across (x ∷ xs) s =
    sorted-append d (f x) (flat_map f xs) (each x) (sorted-flat_map c d f each across xs (sorted-rest c x xs s))
    (λ i j a b. let block = Among-from_flat_map f xs j b in across x block.0 i j (sorted-below c x xs s block.0 block.1) a block.2)

-- ---- a strictly sorted list is known by its members

module _ {K : Type 0} (c : K → K → Ordering) (o : IsTotalOrder c) where
  pub not_both : (x y : K) → c x y ≡ Less → c y x ≡ Less → ⊥
  not_both x y h k =
      let turned : c x y ≡ ordering_reverse (c y x) = o.antisymm x y in
      let apart : c x y ≡ Greater = turned ∙ ap ordering_reverse k in
      cc

  not_first : (x y : K) (xs ys : List K) → IsStrictlySortedBy c (x ∷ xs) → IsStrictlySortedBy c (y ∷ ys) → Among x (y ∷ ys) → Among y (x ∷ xs) → x ≡ y
  not_first x y xs ys s t (inl e) b = e
  not_first x y xs ys s t (inr a) (inl e) = sym e
  not_first x y xs ys s t (inr a) (inr b) = absurd (not_both x y (sorted-below c x xs s y b) (sorted-below c y ys t x a))

  in_rest : (x y z : K) (xs ys : List K) → IsStrictlySortedBy c (x ∷ xs) → x ≡ y → Among z xs → Among z (y ∷ ys) → Among z ys
  in_rest x y z xs ys s e a (inl f) =
      absurd (let below : c x z ≡ Less = sorted-below c x xs s z a in let itself : c x x ≡ Equal = tied_itself o x in let same : z ≡ x = f ∙ sym e in let moved : c x z ≡ c x x = ap (c x) same in cc)
  in_rest x y z xs ys s e a (inr b) = b

  pub sorted-unique : (xs ys : List K) → IsStrictlySortedBy c xs → IsStrictlySortedBy c ys → ((z : K) → Among z xs → Among z ys) → ((z : K) → Among z ys → Among z xs) → xs ≡ ys
  sorted-unique [] [] s t there back = refl
  sorted-unique [] (y ∷ ys) s t there back = absurd (back y (inl refl))
  sorted-unique (x ∷ xs) [] s t there back = absurd (there x (inl refl))
  sorted-unique (x ∷ xs) (y ∷ ys) s t there back =
      let first : x ≡ y = not_first x y xs ys s t (there x (inl refl)) (back y (inl refl)) in
      let rest : xs ≡ ys = sorted-unique xs ys (sorted-rest c x xs s) (sorted-rest c y ys t) (λ z a. in_rest x y z xs ys s first a (there z (inr a))) (λ z a. in_rest y x z ys xs t (sym first) a (back z (inr a))) in
      λ i. first i ∷ rest i
