-- What is put into a list that rises by a total order, by the place at which it comes to stand.
use Rattle.std.proofs.Common.{◌≡◌, ◌∙◌, ℕ, zero, suc, ◌<◌, ◌≤◌, ◌+◌, List, [], ◌∷◌, length, get_or, set, map, refl, sym, ap, inl, inr, arith, false}
use Rattle.std.specs.Cmp.{IsTotalOrder}
use Rattle.std.specs.List.{insert}
use Rattle.std.specs.List.Sorted.{IsStrictlySortedBy, IsSortedBy, IsPartitionPoint, IsNonDecreasingBy}
use Rattle.std.specs.Ordering.{ordering_reverse, ordering_index, is_lt}
use Rattle.std.specs.declared.cmp.Ordering.{Ordering}
use Rattle.std.specs.declared.cmp.Ordering.TheVariants.{Less, Equal, Greater}
use Rattle.std.proofs.lemmas.Cmp.{alike_right}
use Rattle.std.proofs.lemmas.List.Sorted.{searchable_from_sorted}
use Rattle.checkpoint_spec.proofs.of_history_laws.Members.{Among}
use Rattle.checkpoint_spec.proofs.of_history_laws.StrictlySorted.{sorted-below, sorted-rest}
use Rattle.checkpoint_spec.specs.table_machine.Places.{put}
use Rattle.checkpoint_spec.proofs.of_table_machine.Risen.{turned_less}

among-place : {K : Type 0} (xs : List K) (at : ℕ) (y : K) → at < length xs → y ≡ get_or xs at y → Among y xs
among-place [] at y h e = absurd (omega (arith, h))
among-place (x ∷ xs) zero y h e = inl e
among-place (x ∷ xs) (suc k) y h e = inr (among-place xs k y (omega (arith, h)) e)

module _ {K : Type 0} (c : K → K → Ordering) (o : IsTotalOrder c) where
  turned_greater : (x y : K) → c x y ≡ Less → c y x ≡ Greater
  turned_greater x y h = o.antisymm y x ∙ ap ordering_reverse h

  module _ (x : K) (f : K → K) where
    -- where something of the key stands, it is changed
    pub put-found : (xs : List K) (at : ℕ) (y : K) → IsStrictlySortedBy c xs → at < length xs → y ≡ get_or xs at y → c x y ≡ Equal → put (c x) x f xs ≡ set xs at (f y)
    put-found [] at y s h e tied = absurd (omega (arith, h))
    put-found (z ∷ zs) zero y s h e tied =
        let here : c x z ≡ Equal = ap (c x) (sym e) ∙ tied in
        rw here (ap (λ w. f w ∷ zs) (sym e))
    put-found (z ∷ zs) (suc k) y s h e tied =
        let below : c z y ≡ Less = sorted-below c z zs s y (among-place zs k y (omega (arith, h)) e) in
        let further : c x z ≡ Greater = turned_greater z x (alike_right o x y z tied ∙ below) in
        rw further (ap (λ ws. z ∷ ws) (put-found zs k y (sorted-rest c z zs s) (omega (arith, h)) e tied))

    -- between what is below it and what is above it, it comes to its place
    pub put-gap : (xs : List K) (at : ℕ) → at ≤ length xs → IsPartitionPoint (λ y. c y x ≡ Less) (λ y. c y x ≡ Greater) xs at → put (c x) x f xs ≡ insert xs at x
    put-gap [] zero h parted = refl
    put-gap [] (suc k) h parted = absurd (omega (arith, h))
    put-gap (z ∷ zs) zero h parted =
        let here : c x z ≡ Less = turned_less c o z x (parted.1 0 z (omega arith) (omega arith)) in
        rw here refl
    put-gap (z ∷ zs) (suc k) h parted =
        let here : c x z ≡ Greater = turned_greater z x (parted.0 0 z (omega arith) (omega arith)) in
        let rest : IsPartitionPoint (λ y. c y x ≡ Less) (λ y. c y x ≡ Greater) zs k = (
          λ j d low high. parted.0 (suc j) d (omega arith) (omega (arith, high)),
          λ j d low high. parted.1 (suc j) d (omega (arith, low)) (omega (arith, high)),
        ) in
        rw here (ap (λ ws. z ∷ ws) (put-gap zs k (omega (arith, h)) rest))

  -- ---- a list that rises can be searched

  not_below : (x y : K) → c x y ≡ Less → is_lt (c y x) ≡ false
  not_below x y h = ap is_lt (turned_greater x y h)

  module _ {X : Type 0} (key : X → K) where
    pub rises : (xs : List X) → IsStrictlySortedBy c (map key xs) → IsSortedBy (λ a b. is_lt (c (key a) (key b))) xs
    rises [] s k d low high = absurd (omega (arith, high))
    rises (x ∷ []) s k d low high = absurd (omega (arith, high))
    rises (x ∷ y ∷ ys) s zero d low high = not_below (key x) (key y) (sorted-below c (key x) (key y ∷ map key ys) s (key y) (inl refl))
    rises (x ∷ y ∷ ys) s (suc k) d low high =
        let next : suc k + 1 ≡ suc (k + 1) = omega arith in
        rw next (rises (y ∷ ys) (sorted-rest c (key x) (key y ∷ map key ys) s) k d (omega arith) (omega (arith, high)))

    pub searchable : (xs : List X) (x : K) → IsStrictlySortedBy c (map key xs) → IsNonDecreasingBy (λ y. ordering_index (c (key y) x)) xs
    searchable xs x s = searchable_from_sorted o key xs x (rises xs s)
