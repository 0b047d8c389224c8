-- An element that is put into a list by its key, seen in the order of ranks: of one key the one of the greater rank stays.
use Rattle.std.proofs.Common.{◌≡◌, ◌∙◌, ℕ, zero, suc, List, [], ◌∷◌, take, refl, sym, ap, subst, Bool, true, false, if◌then◌else◌, ◌⊎◌, inl, inr}
use Rattle.std.specs.Cmp.{IsTotalOrder, Equal-is}
use Rattle.std.specs.List.Sorted.{IsStrictlySortedBy}
use Rattle.std.specs.Ordering.{is_lt, is_eq, match_ordering}
use Rattle.std.specs.declared.cmp.Ordering.{Ordering}
use Rattle.std.specs.declared.cmp.Ordering.TheVariants.{Less, Equal, Greater}
use Rattle.std.proofs.lemmas.Cmp.{tied_itself, tied_back}
use Rattle.std.proofs.lemmas.List.Kept.{IsStrictlySortedBy-filter}
use Rattle.table_spec.proofs.of_plain_laws.Members.{Among, Among-from_filter}
use Rattle.table_spec.proofs.of_plain_laws.StrictlySorted.{sorted-cons, sorted-below, sorted-rest, sorted-unique}
use Rattle.table_machine.specs.Places.{put, sorted}
use Rattle.table_machine.proofs.Risen.{Comes, is_new, is_changed, is_old, comes, KeysTell, below_all, turned_less, among-old, among-changed, has_key, sorted-put, sorted-sorted, among-sorted, among-from_sorted}
use Rattle.table_machine.proofs.Ranked.{beaten, top, Apart, not_beaten_by_less, apart-risen, apart-tells, top-sorted}

unequal_is : (p : Ordering) → is_eq p ≡ false → p ≡ Equal → ⊥
unequal_is p h e = let apart : true ≡ false = sym (ap is_eq e) ∙ h in cc

module _ {X : Type 0} (c r : X → X → Ordering) (o : IsTotalOrder c) (t : IsTotalOrder r) where
  -- of the key of x
  abbrev pub is_tied : X → X → Bool
  is_tied x y = is_eq (c x y)

  abbrev pub winner : X → X → X
  winner x y = if beaten r t x y then y else x

  -- the first of the key leaves
  abbrev pub without_key : X → List X → List X
  without_key x [] = []
  without_key x (y ∷ ys) = if is_tied x y then ys else y ∷ without_key x ys

  -- in the order of ranks
  abbrev pub into : X → List X → List X
  into x [] = x ∷ []
  into x (y ∷ ys) = match_ordering (r x y) (x ∷ without_key x (y ∷ ys)) (y ∷ ys) (if is_tied x y then y ∷ ys else y ∷ into x ys)

  -- ---- the first n go by the first n

  take-itself : (n : ℕ) (ys : List X) → take n (take n ys) ≡ take n ys
  take-itself zero ys = refl
  take-itself (suc n) [] = refl
  take-itself (suc n) (y ∷ ys) = ap (λ zs. y ∷ zs) (take-itself n ys)

  without_step : (b : Bool) (n : ℕ) (x y : X) (ys : List X) → take n (without_key x (take (suc n) ys)) ≡ take n (without_key x ys)
      → take (suc n) (if b then take (suc n) ys else y ∷ without_key x (take (suc n) ys)) ≡ take (suc n) (if b then ys else y ∷ without_key x ys)
  without_step true n x y ys h = take-itself (suc n) ys
  without_step false n x y ys h = ap (λ zs. y ∷ zs) h

  take-without : (n : ℕ) (x : X) (ys : List X) → take n (without_key x (take (suc n) ys)) ≡ take n (without_key x ys)
  take-without zero x ys = refl
  take-without (suc n) x [] = refl
  take-without (suc n) x (y ∷ ys) = without_step (is_tied x y) n x y ys (take-without n x ys)

  greater_step : (b : Bool) (n : ℕ) (x y : X) (ys : List X) → take n (into x (take n ys)) ≡ take n (into x ys)
      → take (suc n) (if b then y ∷ take n ys else y ∷ into x (take n ys)) ≡ take (suc n) (if b then y ∷ ys else y ∷ into x ys)
  greater_step true n x y ys h = ap (λ zs. y ∷ zs) (take-itself n ys)
  greater_step false n x y ys h = ap (λ zs. y ∷ zs) h

  into_step : (p : Ordering) (n : ℕ) (x y : X) (ys : List X) → take n (into x (take n ys)) ≡ take n (into x ys)
      → take (suc n) (match_ordering p (x ∷ without_key x (y ∷ take n ys)) (y ∷ take n ys) (if is_tied x y then y ∷ take n ys else y ∷ into x (take n ys)))
      ≡ take (suc n) (match_ordering p (x ∷ without_key x (y ∷ ys)) (y ∷ ys) (if is_tied x y then y ∷ ys else y ∷ into x ys))
  into_step Less n x y ys h = ap (λ zs. x ∷ zs) (take-without n x (y ∷ ys))
  into_step Equal n x y ys h = ap (λ zs. y ∷ zs) (take-itself n ys)
  into_step Greater n x y ys h = greater_step (is_tied x y) n x y ys h

  pub take-into : (n : ℕ) (x : X) (ys : List X) → take n (into x (take n ys)) ≡ take n (into x ys)
  take-into zero x ys = refl
  take-into (suc n) x [] = refl
  take-into (suc n) x (y ∷ ys) = into_step (r x y) n x y ys (take-into n x ys)

  -- ---- what stands there then

  -- x, where none of its key beats it; and what was there, where x doesn't take its place
  abbrev Stays : X → List X → X → Type 0
  Stays x ys w = ((w ≡ x) × ((y : X) → Among y ys → c x y ≡ Equal → beaten r t x y ≡ false)) ⊎ (Among w ys × (c x w ≡ Equal → beaten r t x w ≡ true))

  -- one of the list at most is of the key of x
  abbrev OneOfKey : X → List X → Type 0
  OneOfKey x ys = (y z : X) → Among y ys → Among z ys → c x y ≡ Equal → c x z ≡ Equal → y ≡ z

  -- and none is of its rank
  abbrev pub IsFresh : X → List X → Type 0
  IsFresh x ys = (y : X) → Among y ys → r x y ≡ Equal → ⊥

  module _ (x : X) where
    not_both_ways : (w : X) → beaten r t x w ≡ true → r x w ≡ Less → ⊥
    not_both_ways w h e = let apart : true ≡ false = sym h ∙ not_beaten_by_less r t x w e in cc

    beaten_by_greater : (y : X) → r x y ≡ Greater → beaten r t x y ≡ true
    beaten_by_greater y e = ap is_lt (turned_less r t x y e)

    -- what leaves

    from_without_step : (b : Bool) (w y : X) (ys : List X) → Among w (if b then ys else y ∷ without_key x ys) → (Among w (without_key x ys) → Among w ys) → Among w (y ∷ ys)
    from_without_step true w y ys a next = inr a
    from_without_step false w y ys (inl e) next = inl e
    from_without_step false w y ys (inr a) next = inr (next a)

    among-from_without : (w : X) (ys : List X) → Among w (without_key x ys) → Among w ys
    among-from_without w [] a = a
    among-from_without w (y ∷ ys) a = from_without_step (is_tied x y) w y ys a (among-from_without w ys)

    untied_step : (b : Bool) (w y : X) (ys : List X) → is_tied x y ≡ b → IsStrictlySortedBy r (y ∷ ys) → OneOfKey x (y ∷ ys) → Among w (if b then ys else y ∷ without_key x ys) → (Among w (without_key x ys) → c x w ≡ Equal → ⊥) → c x w ≡ Equal → ⊥
    untied_step true w y ys e s one a next tied =
        let same : w ≡ y = one w y (inr a) (inl refl) tied ((Equal-is (c x y)).0 e) in
        let apart : Less ≡ Equal = sym (sorted-below r y ys s w a) ∙ ap (r y) same ∙ tied_itself t y in
        cc
    untied_step false w y ys e s one (inl same) next tied = unequal_is (c x y) e (ap (c x) (sym same) ∙ tied)
    untied_step false w y ys e s one (inr a) next tied = next a tied

    untied-without : (w : X) (ys : List X) → IsStrictlySortedBy r ys → OneOfKey x ys → Among w (without_key x ys) → c x w ≡ Equal → ⊥
    untied-without w [] s one a tied = a
    untied-without w (y ∷ ys) s one a tied =
        untied_step (is_tied x y) w y ys refl s one a (untied-without w ys (sorted-rest r y ys s) (λ u v b d. one u v (inr b) (inr d))) tied

    stays_step : (b : Bool) (w y : X) (ys : List X) → is_tied x y ≡ b → (c x w ≡ Equal → ⊥) → Among w (y ∷ ys) → (Among w ys → Among w (without_key x ys)) → Among w (if b then ys else y ∷ without_key x ys)
    stays_step true w y ys e apart (inl same) next = absurd (apart (ap (c x) same ∙ (Equal-is (c x y)).0 e))
    stays_step true w y ys e apart (inr a) next = a
    stays_step false w y ys e apart (inl same) next = inl same
    stays_step false w y ys e apart (inr a) next = inr (next a)

    among-without : (w : X) (ys : List X) → (c x w ≡ Equal → ⊥) → Among w ys → Among w (without_key x ys)
    among-without w [] apart a = a
    among-without w (y ∷ ys) apart a = stays_step (is_tied x y) w y ys refl apart a (among-without w ys apart)

    sorted_without_step : (b : Bool) (y : X) (ys : List X) → IsStrictlySortedBy r (y ∷ ys) → IsStrictlySortedBy r (without_key x ys) → IsStrictlySortedBy r (if b then ys else y ∷ without_key x ys)
    sorted_without_step true y ys s next = sorted-rest r y ys s
    sorted_without_step false y ys s next = sorted-cons r y (without_key x ys) (λ w a. sorted-below r y ys s w (among-from_without w ys a)) next

    sorted-without : (ys : List X) → IsStrictlySortedBy r ys → IsStrictlySortedBy r (without_key x ys)
    sorted-without [] s = s
    sorted-without (y ∷ ys) s = sorted_without_step (is_tied x y) y ys s (sorted-without ys (sorted-rest r y ys s))

    -- what stands in order of ranks

    further : (w y : X) (ys : List X) → (c x y ≡ Equal → ⊥) → Stays x ys w → Stays x (y ∷ ys) w
    further w y ys apart (inl h) = inl (h.0, λ z a tied. elim a [ inl same ↦ absurd (apart (ap (c x) (sym same) ∙ tied)) | inr b ↦ h.1 z b tied ])
    further w y ys apart (inr h) = inr (inr h.0, h.1)

    from_greater : (b : Bool) (w y : X) (ys : List X) → is_tied x y ≡ b → r x y ≡ Greater → OneOfKey x (y ∷ ys) → Among w (if b then y ∷ ys else y ∷ into x ys) → (Among w (into x ys) → Stays x ys w) → Stays x (y ∷ ys) w
    from_greater true w y ys e f one a next =
        inr (a, λ tied. ap (beaten r t x) (one w y a (inl refl) tied ((Equal-is (c x y)).0 e)) ∙ beaten_by_greater y f)
    from_greater false w y ys e f one (inl same) next = inr (inl same, λ tied. absurd (unequal_is (c x y) e (ap (c x) (sym same) ∙ tied)))
    from_greater false w y ys e f one (inr a) next = further w y ys (unequal_is (c x y) e) (next a)

    from_into_step : (p : Ordering) (w y : X) (ys : List X) → r x y ≡ p → IsStrictlySortedBy r (y ∷ ys) → OneOfKey x (y ∷ ys) → IsFresh x (y ∷ ys)
        → Among w (match_ordering p (x ∷ without_key x (y ∷ ys)) (y ∷ ys) (if is_tied x y then y ∷ ys else y ∷ into x ys)) → (Among w (into x ys) → Stays x ys w) → Stays x (y ∷ ys) w
    from_into_step Less w y ys e s one fresh (inl same) next = inl (same, λ z a tied. not_beaten_by_less r t x z (below_all r t x y ys e s z a))
    from_into_step Less w y ys e s one fresh (inr a) next = inr (among-from_without w (y ∷ ys) a, λ tied. absurd (untied-without w (y ∷ ys) s one a tied))
    from_into_step Equal w y ys e s one fresh a next = absurd (fresh y (inl refl) e)
    from_into_step Greater w y ys e s one fresh a next = from_greater (is_tied x y) w y ys refl e one a next

    stays-from_into : (w : X) (ys : List X) → IsStrictlySortedBy r ys → OneOfKey x ys → IsFresh x ys → Among w (into x ys) → Stays x ys w
    stays-from_into w [] s one fresh (inl same) = inl (same, λ z a tied. absurd a)
    stays-from_into w [] s one fresh (inr a) = absurd a
    stays-from_into w (y ∷ ys) s one fresh a =
        from_into_step (r x y) w y ys refl s one fresh a
        (stays-from_into w ys (sorted-rest r y ys s) (λ u v b d. one u v (inr b) (inr d)) (λ u b. fresh u (inr b)))

    to_greater : (b : Bool) (w y : X) (ys : List X) → is_tied x y ≡ b → r x y ≡ Greater → Stays x (y ∷ ys) w → (Stays x ys w → Among w (into x ys)) → Among w (if b then y ∷ ys else y ∷ into x ys)
    to_greater true w y ys e f (inl h) next =
        absurd (let apart : true ≡ false = sym (beaten_by_greater y f) ∙ h.1 y (inl refl) ((Equal-is (c x y)).0 e) in cc)
    to_greater true w y ys e f (inr h) next = h.0
    to_greater false w y ys e f (inl h) next = inr (next (inl (h.0, λ z a. h.1 z (inr a))))
    to_greater false w y ys e f (inr h) next = elim (h.0) [ inl same ↦ inl same | inr a ↦ inr (next (inr (a, h.1))) ]

    to_into_step : (p : Ordering) (w y : X) (ys : List X) → r x y ≡ p → IsStrictlySortedBy r (y ∷ ys) → IsFresh x (y ∷ ys) → Stays x (y ∷ ys) w → (Stays x ys w → Among w (into x ys))
        → Among w (match_ordering p (x ∷ without_key x (y ∷ ys)) (y ∷ ys) (if is_tied x y then y ∷ ys else y ∷ into x ys))
    to_into_step Less w y ys e s fresh (inl h) next = inl h.0
    to_into_step Less w y ys e s fresh (inr h) next =
        inr (among-without w (y ∷ ys) (λ tied. not_both_ways w (h.1 tied) (below_all r t x y ys e s w h.0)) h.0)
    to_into_step Equal w y ys e s fresh h next = absurd (fresh y (inl refl) e)
    to_into_step Greater w y ys e s fresh h next = to_greater (is_tied x y) w y ys refl e h next

    among-into : (w : X) (ys : List X) → IsStrictlySortedBy r ys → IsFresh x ys → Stays x ys w → Among w (into x ys)
    among-into w [] s fresh (inl h) = inl h.0
    among-into w [] s fresh (inr h) = absurd h.0
    among-into w (y ∷ ys) s fresh h = to_into_step (r x y) w y ys refl s fresh h (among-into w ys (sorted-rest r y ys s) (λ u b. fresh u (inr b)))

    below_into : (w y : X) (ys : List X) → r x y ≡ Greater → IsStrictlySortedBy r (y ∷ ys) → Stays x ys w → r y w ≡ Less
    below_into w y ys e s (inl h) = ap (r y) h.0 ∙ turned_less r t x y e
    below_into w y ys e s (inr h) = sorted-below r y ys s w h.0

    sorted_greater : (b : Bool) (y : X) (ys : List X) → r x y ≡ Greater → IsStrictlySortedBy r (y ∷ ys) → ((w : X) → Among w (into x ys) → Stays x ys w) → IsStrictlySortedBy r (into x ys) → IsStrictlySortedBy r (if b then y ∷ ys else y ∷ into x ys)
    sorted_greater true y ys e s from next = s
    sorted_greater false y ys e s from next = sorted-cons r y (into x ys) (λ w a. below_into w y ys e s (from w a)) next

    sorted_into_step : (p : Ordering) (y : X) (ys : List X) → r x y ≡ p → IsStrictlySortedBy r (y ∷ ys) → ((w : X) → Among w (into x ys) → Stays x ys w) → IsStrictlySortedBy r (into x ys)
        → IsStrictlySortedBy r (match_ordering p (x ∷ without_key x (y ∷ ys)) (y ∷ ys) (if is_tied x y then y ∷ ys else y ∷ into x ys))
    sorted_into_step Less y ys e s from next =
        sorted-cons r x (without_key x (y ∷ ys)) (λ w a. below_all r t x y ys e s w (among-from_without w (y ∷ ys) a)) (sorted-without (y ∷ ys) s)
    sorted_into_step Equal y ys e s from next = s
    sorted_into_step Greater y ys e s from next = sorted_greater (is_tied x y) y ys e s from next

    sorted-into : (ys : List X) → IsStrictlySortedBy r ys → OneOfKey x ys → IsFresh x ys → IsStrictlySortedBy r (into x ys)
    sorted-into [] s one fresh = sorted-cons r x [] (λ w a. absurd a) s
    sorted-into (y ∷ ys) s one fresh =
        let rest = sorted-rest r y ys s in
        let fewer : OneOfKey x ys = λ u v b d. one u v (inr b) (inr d) in
        let apart : IsFresh x ys = λ u b. fresh u (inr b) in
        sorted_into_step (r x y) y ys refl s (λ w a. stays-from_into w ys rest fewer apart a) (sorted-into ys rest fewer apart)

    -- ---- what stands in order of keys

    to_winner : (b : Bool) (y : X) → c x y ≡ Equal → c x (if b then y else x) ≡ Equal
    to_winner true y e = e
    to_winner false y e = tied_itself o x

    pub keeps : (y : X) → c x y ≡ Equal → c x (winner x y) ≡ Equal
    keeps y e = to_winner (beaten r t x y) y e

    two_tied : (v z : X) (ys : List X) → IsStrictlySortedBy c (v ∷ ys) → c x v ≡ Equal → Among z ys → c x z ≡ Equal → ⊥
    two_tied v z ys s e b f = let apart : Less ≡ Equal = sym (sorted-below c v ys s z b) ∙ o.congr v x z (tied_back o x v e) ∙ f in cc

    pub one_of_key : (ys : List X) → IsStrictlySortedBy c ys → OneOfKey x ys
    one_of_key [] s y z a b e f = absurd a
    one_of_key (v ∷ ys) s y z (inl g) (inl h) e f = g ∙ sym h
    one_of_key (v ∷ ys) s y z (inl g) (inr b) e f = absurd (two_tied v z ys s (ap (c x) (sym g) ∙ e) b f)
    one_of_key (v ∷ ys) s y z (inr a) (inl h) e f = absurd (two_tied v y ys s (ap (c x) (sym h) ∙ f) a e)
    one_of_key (v ∷ ys) s y z (inr a) (inr b) e f = one_of_key ys (sorted-rest c v ys s) y z a b e f

    changed : (b : Bool) (w y : X) (ys : List X) → beaten r t x y ≡ b → IsStrictlySortedBy c ys → Among y ys → c x y ≡ Equal → w ≡ (if b then y else x) → Stays x ys w
    changed true w y ys e s a tied same = inr (subst (λ z. Among z ys) (sym same) a, λ f. ap (beaten r t x) same ∙ e)
    changed false w y ys e s a tied same = inl (same, λ z b f. ap (beaten r t x) (one_of_key ys s z y b a f tied) ∙ e)

    stays_put : (w : X) (ys : List X) → IsStrictlySortedBy c ys → Comes c o x (winner x) keeps w ys → Stays x ys w
    stays_put w ys s (is_new same none) = inl (same, λ z a tied. absurd (none z a tied))
    stays_put w ys s (is_changed y a tied same) = changed (beaten r t x y) w y ys refl s a tied same
    stays_put w ys s (is_old a apart) = inr (a, λ tied. absurd (apart tied))

    stays-from_put : (w : X) (ys : List X) → IsStrictlySortedBy c ys → Among w (put (c x) x (winner x) ys) → Stays x ys w
    stays-from_put w ys s a = stays_put w ys s (comes c o x (winner x) keeps w ys s a)

    new_put : (u : X) (ys : List X) → Among u (put (c x) x (winner x) ys) → c x u ≡ Equal → Stays x ys u → ((y : X) → Among y ys → c x y ≡ Equal → beaten r t x y ≡ false) → Among x (put (c x) x (winner x) ys)
    new_put u ys a tied (inl h) unbeaten = subst (λ z. Among z (put (c x) x (winner x) ys)) h.0 a
    new_put u ys a tied (inr h) unbeaten = absurd (let apart : true ≡ false = sym (h.1 tied) ∙ unbeaten u h.0 tied in cc)

    old_put : (b : Bool) (w : X) (ys : List X) → is_tied x w ≡ b → IsStrictlySortedBy c ys → Among w ys → (c x w ≡ Equal → beaten r t x w ≡ true) → Among w (put (c x) x (winner x) ys)
    old_put true w ys e s a h =
        let tied = (Equal-is (c x w)).0 e in
        let itself : winner x w ≡ w = ap (λ b. if b then w else x) (h tied) in
        subst (λ z. Among z (put (c x) x (winner x) ys)) itself (among-changed c o x (winner x) keeps w ys s tied a)
    old_put false w ys e s a h = among-old c o x (winner x) keeps w ys (unequal_is (c x w) e) a

    among-put : (w : X) (ys : List X) → IsStrictlySortedBy c ys → Stays x ys w → Among w (put (c x) x (winner x) ys)
    among-put w ys s (inl h) =
        let u = has_key c o x (winner x) keeps ys in
        subst (λ z. Among z (put (c x) x (winner x) ys)) (sym h.0) (new_put u.0 ys u.1 u.2 (stays-from_put u.0 ys s u.1) h.1)
    among-put w ys s (inr h) = old_put (is_tied x w) w ys refl s h.0 h.1

    -- ---- and the one in the other

    restays : (w : X) (ys zs : List X) → ((y : X) → Among y ys → Among y zs) → ((y : X) → Among y zs → Among y ys) → Stays x ys w → Stays x zs w
    restays w ys zs there back (inl h) = inl (h.0, λ y a tied. h.1 y (back y a) tied)
    restays w ys zs there back (inr h) = inr (there w h.0, h.1)

    from_whole : (w : X) (ys : List X) → Stays x ys w → Among w (x ∷ ys)
    from_whole w ys (inl h) = inl h.0
    from_whole w ys (inr h) = inr h.0

    module _ (ys : List X) (s : IsStrictlySortedBy c ys) (tell : KeysTell r t (x ∷ ys)) (fresh : IsFresh x ys) where
      abbrev all : List X
      all = put (c x) x (winner x) ys

      pub put_is_sorted : IsStrictlySortedBy c all
      put_is_sorted = sorted-put c o x (winner x) keeps ys s

      put_tells : KeysTell r t all
      put_tells y z a b tied = tell y z (from_whole y ys (stays-from_put y ys s a)) (from_whole z ys (stays-from_put z ys s b)) tied

      pub put_is_apart : Apart r t all
      put_is_apart = apart-risen r t c o all put_is_sorted put_tells

      there : (y : X) → Among y ys → Among y (sorted r ys)
      there y a = among-sorted r t y ys (λ u v b d. tell u v (inr b) (inr d)) a

      back : (y : X) → Among y (sorted r ys) → Among y ys
      back y a = among-from_sorted r t y ys a

      one : OneOfKey x (sorted r ys)
      one u v a b e f = one_of_key ys s u v (back u a) (back v b) e f

      pub ranked-put : sorted r all ≡ into x (sorted r ys)
      ranked-put =
          sorted-unique r t (sorted r all) (into x (sorted r ys)) (sorted-sorted r t all) (sorted-into (sorted r ys) (sorted-sorted r t ys) one (λ y a. fresh y (back y a)))
          (λ w a. among-into w (sorted r ys) (sorted-sorted r t ys) (λ y b. fresh y (back y b))
          (restays w ys (sorted r ys) there back (stays-from_put w ys s (among-from_sorted r t w all a))))
          (λ w a. among-sorted r t w all put_tells
          (among-put w ys s (restays w (sorted r ys) ys back there (stays-from_into w (sorted r ys) (sorted-sorted r t ys) one (λ y b. fresh y (back y b)) a))))

  -- ---- the greatest go by the greatest

  same_ranked : (ys zs : List X) → IsStrictlySortedBy c ys → IsStrictlySortedBy c zs → KeysTell r t ys → KeysTell r t zs → sorted r ys ≡ sorted r zs → ys ≡ zs
  same_ranked ys zs s u tell told e =
      sorted-unique c o ys zs s u
      (λ w a. among-from_sorted r t w zs (subst (Among w) e (among-sorted r t w ys tell a)))
      (λ w a. among-from_sorted r t w ys (subst (Among w) (sym e) (among-sorted r t w zs told a)))

  top_among : (n : ℕ) (ys : List X) (w : X) → Among w (top r t n ys) → Among w ys
  top_among n ys w a = (Among-from_filter _ ys w a).0

  top_is_sorted : (n : ℕ) (ys : List X) → IsStrictlySortedBy c ys → IsStrictlySortedBy c (top r t n ys)
  top_is_sorted n ys s = IsStrictlySortedBy-filter c _ ys s

  module _ (n : ℕ) (x : X) (ys : List X) (s : IsStrictlySortedBy c ys) (tell : KeysTell r t (x ∷ ys)) (fresh : IsFresh x ys) where
    less_or_same : (w : X) → Among w (x ∷ top r t n ys) → Among w (x ∷ ys)
    less_or_same w (inl e) = inl e
    less_or_same w (inr a) = inr (top_among n ys w a)

    abbrev tell_tops : KeysTell r t (x ∷ top r t n ys)
    tell_tops y z a b tied = tell y z (less_or_same y a) (less_or_same z b) tied

    abbrev fresh_tops : IsFresh x (top r t n ys)
    fresh_tops y a = fresh y (top_among n ys y a)

    abbrev few : List X
    few = put (c x) x (winner x) (top r t n ys)

    abbrev many : List X
    many = put (c x) x (winner x) ys

    pub few_are_apart : Apart r t few
    few_are_apart = put_is_apart x (top r t n ys) (top_is_sorted n ys s) tell_tops fresh_tops

    same_tops : sorted r (top r t n few) ≡ sorted r (top r t n many)
    same_tops =
        top-sorted r t n few few_are_apart
        ∙ ap (take n) (ranked-put x (top r t n ys) (top_is_sorted n ys s) tell_tops fresh_tops ∙ ap (into x) (top-sorted r t n ys (apart-risen r t c o ys s (λ y z a b. tell y z (inr a) (inr b)))))
        ∙ take-into n x (sorted r ys)
        ∙ ap (take n) (sym (ranked-put x ys s tell fresh))
        ∙ sym (top-sorted r t n many (put_is_apart x ys s tell fresh))

    pub top-put : top r t n few ≡ top r t n many
    top-put =
        same_ranked (top r t n few) (top r t n many)
        (top_is_sorted n few (put_is_sorted x (top r t n ys) (top_is_sorted n ys s) tell_tops fresh_tops)) (top_is_sorted n many (put_is_sorted x ys s tell fresh))
        (λ y z a b. apart-tells r t few few_are_apart y z (top_among n few y a) (top_among n few z b))
        (λ y z a b. apart-tells r t many (put_is_apart x ys s tell fresh) y z (top_among n many y a) (top_among n many z b))
        same_tops
