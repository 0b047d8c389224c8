-- What is put into a list that rises, by its index: what a search that halves the list has to show.
use Rattle.std.proofs.Common.{◌≡◌, ◌∙◌, ℕ, zero, suc, ◌<◌, ◌≤◌, List, [], ◌∷◌, length, get_or, set, take, drop, arith, refl, ap, Some, None, inl, inr}
use Rattle.std.specs.Cmp.{IsTotalOrder}
use Rattle.std.specs.List.{insert, AllByRecursion}
use Rattle.std.specs.List.Sorted.{IsStrictlySortedBy}
use Rattle.std.specs.Ordering.{ordering_reverse}
use Rattle.std.specs.declared.cmp.Ordering.{Ordering}
use Rattle.std.specs.declared.cmp.Ordering.TheVariants.{Less, Equal, Greater}
use Rattle.std.proofs.lemmas.Cmp.{alike_right}
use Rattle.table_spec.proofs.of_plain_laws.Members.{Among}
use Rattle.table_spec.proofs.of_plain_laws.StrictlySorted.{sorted-below, sorted-rest}
use Rattle.table_machine.specs.Places.{put, find}
use Rattle.table_machine.proofs.Risen.{turned_less}

module _ {K : Type 0} where
  among-get : (ys : List K) (i : ℕ) (d : K) → i < length ys → Among (get_or ys i d) ys
  among-get [] i d h = absurd (omega (arith, h))
  among-get (y ∷ ys) zero d h = inl refl
  among-get (y ∷ ys) (suc i) d h = inr (among-get ys i d (omega (arith, h)))

  module _ (place : K → Ordering) (new : K) (change : K → K) where
    -- all before this index stand before the key
    abbrev pub StandBefore : List K → ℕ → K → Type 0
    StandBefore ys i d = (k : ℕ) → k < i → place (get_or ys k d) ≡ Greater

    first_greater : (y : K) (ys : List K) (i : ℕ) (d : K) → StandBefore (y ∷ ys) (suc i) d → place y ≡ Greater
    first_greater y ys i d h = h 0 (omega arith)

    rest_before : (y : K) (ys : List K) (i : ℕ) (d : K) → StandBefore (y ∷ ys) (suc i) d → StandBefore ys i d
    rest_before y ys i d h k l = h (suc k) (omega (arith, l))

    -- where the next one stands behind the key, the new one is inserted
    pub put-inserts : (ys : List K) (i : ℕ) (d : K) → i ≤ length ys → StandBefore ys i d → (i < length ys → place (get_or ys i d) ≡ Less) → put place new change ys ≡ insert ys i new
    put-inserts [] zero d l before behind = refl
    put-inserts [] (suc i) d l before behind = absurd (omega (arith, l))
    put-inserts (y ∷ ys) zero d l before behind = rw (behind (omega arith)) refl
    put-inserts (y ∷ ys) (suc i) d l before behind =
        rw (first_greater y ys i d before) (ap (λ zs. y ∷ zs) (put-inserts ys i d (omega (arith, l)) (rest_before y ys i d before) (λ h. behind (omega (arith, h)))))

    -- where it is of the key, it is changed
    pub put-sets : (ys : List K) (i : ℕ) (d : K) → i < length ys → StandBefore ys i d → place (get_or ys i d) ≡ Equal → put place new change ys ≡ set ys i (change (get_or ys i d))
    put-sets [] i d l before here = absurd (omega (arith, l))
    put-sets (y ∷ ys) zero d l before here = rw here refl
    put-sets (y ∷ ys) (suc i) d l before here =
        rw (first_greater y ys i d before) (ap (λ zs. y ∷ zs) (put-sets ys i d (omega (arith, l)) (rest_before y ys i d before) here))

    pub find-some : (ys : List K) (i : ℕ) (d : K) → i < length ys → StandBefore ys i d → place (get_or ys i d) ≡ Equal → find place ys ≡ Some (get_or ys i d)
    find-some [] i d l before here = absurd (omega (arith, l))
    find-some (y ∷ ys) zero d l before here = rw here refl
    find-some (y ∷ ys) (suc i) d l before here = rw (first_greater y ys i d before) (find-some ys i d (omega (arith, l)) (rest_before y ys i d before) here)

    pub find-none : (ys : List K) (i : ℕ) (d : K) → i ≤ length ys → StandBefore ys i d → (i < length ys → place (get_or ys i d) ≡ Less) → find place ys ≡ None
    find-none [] i d l before behind = refl
    find-none (y ∷ ys) zero d l before behind = rw (behind (omega arith)) refl
    find-none (y ∷ ys) (suc i) d l before behind = rw (first_greater y ys i d before) (find-none ys i d (omega (arith, l)) (rest_before y ys i d before) (λ h. behind (omega (arith, h))))

  -- ---- one look at the middle says where all before it or behind it stand

  module _ (c : K → K → Ordering) (o : IsTotalOrder c) where
    pub rising : (ys : List K) (j k : ℕ) (d : K) → IsStrictlySortedBy c ys → j < k → k < length ys → c (get_or ys j d) (get_or ys k d) ≡ Less
    rising [] j k d s h l = absurd (omega (arith, l))
    rising (y ∷ ys) j zero d s h l = absurd (omega (arith, h))
    rising (y ∷ ys) zero (suc k) d s h l = sorted-below c y ys s (get_or ys k d) (among-get ys k d (omega (arith, l)))
    rising (y ∷ ys) (suc j) (suc k) d s h l = rising ys j k d (sorted-rest c y ys s) (omega (arith, h)) (omega (arith, l))

    pub greater_before : (x : K) (ys : List K) (j k : ℕ) (d : K) → IsStrictlySortedBy c ys → j < k → k < length ys → c x (get_or ys k d) ≡ Greater → c x (get_or ys j d) ≡ Greater
    greater_before x ys j k d s h l e =
        let below : c (get_or ys j d) x ≡ Less = o.trans (get_or ys j d) (get_or ys k d) x (rising ys j k d s h l) (turned_less c o x (get_or ys k d) e) in
        o.antisymm x (get_or ys j d) ∙ ap ordering_reverse below

    pub less_behind : (x : K) (ys : List K) (j k : ℕ) (d : K) → IsStrictlySortedBy c ys → j < k → k < length ys → c x (get_or ys j d) ≡ Less → c x (get_or ys k d) ≡ Less
    less_behind x ys j k d s h l e = o.trans x (get_or ys j d) (get_or ys k d) e (rising ys j k d s h l)

    -- of a list that rises the element of the key is known by its index alone
    before_tied : (x : K) (ys : List K) (i : ℕ) (d : K) → IsStrictlySortedBy c ys → i < length ys → c x (get_or ys i d) ≡ Equal → (k : ℕ) → k < i → c x (get_or ys k d) ≡ Greater
    before_tied x ys i d s l e k h =
        let below : c (get_or ys k d) x ≡ Less = alike_right o x (get_or ys i d) (get_or ys k d) e ∙ rising ys k i d s h l in
        o.antisymm x (get_or ys k d) ∙ ap ordering_reverse below

    pub put-sets_risen : (x new : K) (change : K → K) (ys : List K) (i : ℕ) (d : K) → IsStrictlySortedBy c ys → i < length ys → c x (get_or ys i d) ≡ Equal → put (c x) new change ys ≡ set ys i (change (get_or ys i d))
    put-sets_risen x new change ys i d s l e = put-sets (c x) new change ys i d l (before_tied x ys i d s l e) e

    pub find-some_risen : (x : K) (ys : List K) (i : ℕ) (d : K) → IsStrictlySortedBy c ys → i < length ys → c x (get_or ys i d) ≡ Equal → find (c x) ys ≡ Some (get_or ys i d)
    find-some_risen x ys i d s l e = find-some (c x) x (λ y. y) ys i d l (before_tied x ys i d s l e) e

  -- ---- a key between those before it and those behind it

  module _ (place : K → Ordering) where
    pub put-between : (new : K) (change : K → K) (ys : List K) (i : ℕ) → AllByRecursion (λ y. place y ≡ Greater) (take i ys) → AllByRecursion (λ y. place y ≡ Less) (drop i ys) → put place new change ys ≡ insert ys i new
    put-between new change [] zero before behind = refl
    put-between new change [] (suc i) before behind = refl
    put-between new change (y ∷ ys) zero before behind = rw behind.0 refl
    put-between new change (y ∷ ys) (suc i) before behind = rw before.0 (ap (λ zs. y ∷ zs) (put-between new change ys i before.1 behind))

    pub find-between : (ys : List K) (i : ℕ) → AllByRecursion (λ y. place y ≡ Greater) (take i ys) → AllByRecursion (λ y. place y ≡ Less) (drop i ys) → find place ys ≡ None
    find-between [] i before behind = refl
    find-between (y ∷ ys) zero before behind = rw behind.0 refl
    find-between (y ∷ ys) (suc i) before behind = rw before.0 (find-between ys i before.1 behind)
