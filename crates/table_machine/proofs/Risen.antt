-- Lists that rise by a total order.
use Rattle.std.proofs.Common.{◌≡◌, ◌∙◌, List, [], ◌∷◌, refl, sym, ap, subst, Bool, true, false, cond, ◌⊎◌, inl, inr}
use Rattle.std.specs.Cmp.{IsTotalOrder}
use Rattle.std.specs.List.{filter}
use Rattle.std.specs.List.Sorted.{IsStrictlySortedBy}
use Rattle.std.specs.Ordering.{match_ordering, ordering_reverse}
use Rattle.std.specs.declared.cmp.Ordering.{Ordering}
use Rattle.std.specs.declared.cmp.Ordering.TheVariants.{Less, Equal, Greater}
use Rattle.std.proofs.lemmas.Cmp.{alike_right, tied_itself}
use Rattle.table_spec.proofs.of_plain_laws.Members.{Among, Among-from_filter}
use Rattle.table_spec.proofs.of_plain_laws.StrictlySorted.{sorted-nil, sorted-cons, sorted-below, sorted-rest}
use Rattle.table_machine.specs.Places.{put, sorted}

module _ {K : Type 0} (c : K → K → Ordering) (o : IsTotalOrder c) where
  pub turned_less : (x y : K) → c x y ≡ Greater → c y x ≡ Less
  turned_less x y h = o.antisymm y x ∙ ap ordering_reverse h

  pub below_all : (x y : K) (ys : List K) → c x y ≡ Less → IsStrictlySortedBy c (y ∷ ys) → (z : K) → Among z (y ∷ ys) → c x z ≡ Less
  below_all x y ys e s z (inl same) = rw same e
  below_all x y ys e s z (inr a) = o.trans x y z e (sorted-below c y ys s z a)

  -- ---- an element that is put in its place

  module _ (x : K) (f : K → K) (keeps : (y : K) → c x y ≡ Equal → c x (f y) ≡ Equal) where
    -- where what is there comes from
    pub data Comes (w : K) (ys : List K) : Type 0 where
      is_new : w ≡ x → ((y : K) → Among y ys → c x y ≡ Equal → ⊥) → Comes w ys
      is_changed : (y : K) → Among y ys → c x y ≡ Equal → w ≡ f y → Comes w ys
      is_old : Among w ys → (c x w ≡ Equal → ⊥) → Comes w ys

    not_tied : (y z : K) → c x y ≡ Greater → c x z ≡ Equal → z ≡ y → ⊥
    not_tied y z e tied same = let apart : Greater ≡ Equal = sym e ∙ ap (c x) (sym same) ∙ tied in cc

    less_apart : (y : K) → c x y ≡ Less → c x y ≡ Equal → ⊥
    less_apart y e tied = let apart : Less ≡ Equal = sym e ∙ tied in cc

    none_before : (y z : K) (ys : List K) → c x y ≡ Greater → ((v : K) → Among v ys → c x v ≡ Equal → ⊥) → Among z (y ∷ ys) → c x z ≡ Equal → ⊥
    none_before y z ys e none (inl same) tied = not_tied y z e tied same
    none_before y z ys e none (inr a) tied = none z a tied

    further : (w y : K) (ys : List K) → c x y ≡ Greater → Comes w ys → Comes w (y ∷ ys)
    further w y ys e (is_new same none) = is_new same (λ z a tied. none_before y z ys e none a tied)
    further w y ys e (is_changed z a tied same) = is_changed z (inr a) tied same
    further w y ys e (is_old a apart) = is_old (inr a) apart

    comes_step : (w y : K) (ys : List K) (p : Ordering) → c x y ≡ p → IsStrictlySortedBy c (y ∷ ys) → Among w (match_ordering p (x ∷ y ∷ ys) (f y ∷ ys) (y ∷ put (c x) x f ys)) → (Among w (put (c x) x f ys) → Comes w ys) → Comes w (y ∷ ys)
    comes_step w y ys Less e s (inl same) next = is_new same (λ z a tied. less_apart z (below_all x y ys e s z a) tied)
    comes_step w y ys Less e s (inr a) next = is_old a (λ tied. less_apart w (below_all x y ys e s w a) tied)
    comes_step w y ys Equal e s (inl same) next = is_changed y (inl refl) e same
    comes_step w y ys Equal e s (inr a) next = is_old (inr a) (λ tied. less_apart w (o.congr x y w e ∙ sorted-below c y ys s w a) tied)
    comes_step w y ys Greater e s (inl same) next = is_old (inl same) (λ tied. not_tied y w e tied same)
    comes_step w y ys Greater e s (inr a) next = further w y ys e (next a)

    pub comes : (w : K) (ys : List K) → IsStrictlySortedBy c ys → Among w (put (c x) x f ys) → Comes w ys
    comes w [] s (inl same) = is_new same (λ z a tied. a)
    comes w [] s (inr a) = absurd a
    comes w (y ∷ ys) s a = comes_step w y ys (c x y) refl s a (comes w ys (sorted-rest c y ys s))

    above : (y : K) (ys : List K) → c x y ≡ Greater → IsStrictlySortedBy c (y ∷ ys) → (w : K) → Comes w ys → c y w ≡ Less
    above y ys e s w (is_new same none) = rw same (turned_less x y e)
    above y ys e s w (is_changed z a tied same) = rw same (sym (alike_right o x (f z) y (keeps z tied)) ∙ turned_less x y e)
    above y ys e s w (is_old a apart) = sorted-below c y ys s w a

    still_below : (y w : K) → c x y ≡ Equal → c y w ≡ Less → c (f y) w ≡ Less
    still_below y w e below = sym (o.congr x (f y) w (keeps y e)) ∙ o.congr x y w e ∙ below

    put_step : (y : K) (ys : List K) (p : Ordering) → c x y ≡ p → IsStrictlySortedBy c (y ∷ ys) → IsStrictlySortedBy c (put (c x) x f ys) → IsStrictlySortedBy c (match_ordering p (x ∷ y ∷ ys) (f y ∷ ys) (y ∷ put (c x) x f ys))
    put_step y ys Less e s next = sorted-cons c x (y ∷ ys) (below_all x y ys e s) s
    put_step y ys Equal e s next = sorted-cons c (f y) ys (λ w a. still_below y w e (sorted-below c y ys s w a)) (sorted-rest c y ys s)
    put_step y ys Greater e s next = sorted-cons c y (put (c x) x f ys) (λ w a. above y ys e s w (comes w ys (sorted-rest c y ys s) a)) next

    pub sorted-put : (ys : List K) → IsStrictlySortedBy c ys → IsStrictlySortedBy c (put (c x) x f ys)
    sorted-put [] s = sorted-cons c x [] (λ w a. absurd a) s
    sorted-put (y ∷ ys) s = put_step y ys (c x y) refl s (sorted-put ys (sorted-rest c y ys s))

    -- ---- what is there

    old_step : (w y : K) (ys : List K) (p : Ordering) → c x y ≡ p → (c x w ≡ Equal → ⊥) → Among w (y ∷ ys) → (Among w ys → Among w (put (c x) x f ys)) → Among w (match_ordering p (x ∷ y ∷ ys) (f y ∷ ys) (y ∷ put (c x) x f ys))
    old_step w y ys Less e apart a next = inr a
    old_step w y ys Equal e apart (inl same) next = absurd (apart (ap (c x) same ∙ e))
    old_step w y ys Equal e apart (inr a) next = inr a
    old_step w y ys Greater e apart (inl same) next = inl same
    old_step w y ys Greater e apart (inr a) next = inr (next a)

    pub among-old : (w : K) (ys : List K) → (c x w ≡ Equal → ⊥) → Among w ys → Among w (put (c x) x f ys)
    among-old w [] apart a = absurd a
    among-old w (y ∷ ys) apart a = old_step w y ys (c x y) refl apart a (among-old w ys apart)

    new_step : (y : K) (ys : List K) (p : Ordering) → c x y ≡ p → (c x y ≡ Equal → ⊥) → Among x (put (c x) x f ys) → Among x (match_ordering p (x ∷ y ∷ ys) (f y ∷ ys) (y ∷ put (c x) x f ys))
    new_step y ys Less e apart next = inl refl
    new_step y ys Equal e apart next = absurd (apart e)
    new_step y ys Greater e apart next = inr next

    pub among-new : (ys : List K) → ((y : K) → Among y ys → c x y ≡ Equal → ⊥) → Among x (put (c x) x f ys)
    among-new [] apart = inl refl
    among-new (y ∷ ys) apart = new_step y ys (c x y) refl (apart y (inl refl)) (among-new ys (λ z a. apart z (inr a)))

    -- of a list that rises one element at most has the key
    one_of_key : (w y : K) (ys : List K) → IsStrictlySortedBy c (y ∷ ys) → c x w ≡ Equal → c x y ≡ Equal → Among w (y ∷ ys) → w ≡ y
    one_of_key w y ys s tied e (inl same) = same
    one_of_key w y ys s tied e (inr a) =
        let below : c x w ≡ Less = o.congr x y w e ∙ sorted-below c y ys s w a in
        absurd (let apart : Less ≡ Equal = sym below ∙ tied in cc)

    changed_step : (w y : K) (ys : List K) (p : Ordering) → c x y ≡ p → IsStrictlySortedBy c (y ∷ ys) → c x w ≡ Equal → Among w (y ∷ ys) → (Among w ys → Among (f w) (put (c x) x f ys)) → Among (f w) (match_ordering p (x ∷ y ∷ ys) (f y ∷ ys) (y ∷ put (c x) x f ys))
    changed_step w y ys Less e s tied a next = absurd (let apart : Less ≡ Equal = sym (below_all x y ys e s w a) ∙ tied in cc)
    changed_step w y ys Equal e s tied a next = inl (ap f (one_of_key w y ys s tied e a))
    changed_step w y ys Greater e s tied (inl same) next = absurd (let apart : Greater ≡ Equal = sym e ∙ ap (c x) (sym same) ∙ tied in cc)
    changed_step w y ys Greater e s tied (inr a) next = inr (next a)

    pub among-changed : (w : K) (ys : List K) → IsStrictlySortedBy c ys → c x w ≡ Equal → Among w ys → Among (f w) (put (c x) x f ys)
    among-changed w [] s tied a = absurd a
    among-changed w (y ∷ ys) s tied a = changed_step w y ys (c x y) refl s tied a (among-changed w ys (sorted-rest c y ys s) tied)

    key_step : (y : K) (ys : List K) (p : Ordering) → c x y ≡ p → (u : K) × Among u (put (c x) x f ys) × (c x u ≡ Equal) → (u : K) × Among u (match_ordering p (x ∷ y ∷ ys) (f y ∷ ys) (y ∷ put (c x) x f ys)) × (c x u ≡ Equal)
    key_step y ys Less e next = (x, inl refl, tied_itself o x)
    key_step y ys Equal e next = (f y, inl refl, keeps y e)
    key_step y ys Greater e next = (next.0, inr next.1, next.2)

    -- something of the key is there
    pub has_key : (ys : List K) → (u : K) × Among u (put (c x) x f ys) × (c x u ≡ Equal)
    has_key [] = (x, inl refl, tied_itself o x)
    has_key (y ∷ ys) = key_step y ys (c x y) refl (has_key ys)

  -- ---- sorted lists

  pub sorted-sorted : (xs : List K) → IsStrictlySortedBy c (sorted c xs)
  sorted-sorted [] = sorted-nil c
  sorted-sorted (x ∷ xs) = sorted-put x (λ y. y) (λ y e. e) (sorted c xs) (sorted-sorted xs)

  sorted_step : (w x : K) (ys : List K) → Comes x (λ y. y) (λ y e. e) w ys → (w ≡ x) ⊎ Among w ys
  sorted_step w x ys (is_new same none) = inl same
  sorted_step w x ys (is_changed y a e same) = inr (subst (λ z. Among z ys) (sym same) a)
  sorted_step w x ys (is_old a apart) = inr a

  -- an element that is put where it isn't there yet adds itself alone
  pub among-from_put : (w x : K) (ys : List K) → IsStrictlySortedBy c ys → Among w (put (c x) x (λ y. y) ys) → (w ≡ x) ⊎ Among w ys
  among-from_put w x ys s a = sorted_step w x ys (comes x (λ y. y) (λ y e. e) w ys s a)

  from_rest : (w x : K) (xs : List K) → (w ≡ x) ⊎ Among w (sorted c xs) → (Among w (sorted c xs) → Among w xs) → Among w (x ∷ xs)
  from_rest w x xs (inl same) next = inl same
  from_rest w x xs (inr a) next = inr (next a)

  pub among-from_sorted : (w : K) (xs : List K) → Among w (sorted c xs) → Among w xs
  among-from_sorted w [] a = a
  among-from_sorted w (x ∷ xs) a =
      from_rest w x xs (among-from_put w x (sorted c xs) (sorted-sorted xs) a) (among-from_sorted w xs)

  pub put_itself : (w x : K) (p : Ordering) (xs : List K) → c x w ≡ p → IsStrictlySortedBy c xs → Among w xs → Among w (put (c x) x (λ y. y) xs)
  put_itself w x Less xs e s a = among-old x (λ y. y) (λ y e. e) w xs (λ tied. let apart : Less ≡ Equal = sym e ∙ tied in cc) a
  put_itself w x Equal xs e s a = among-changed x (λ y. y) (λ y e. e) w xs s e a
  put_itself w x Greater xs e s a = among-old x (λ y. y) (λ y e. e) w xs (λ tied. let apart : Greater ≡ Equal = sym e ∙ tied in cc) a

  -- no two of these have one key
  abbrev pub KeysTell : List K → Type 0
  KeysTell xs = (x y : K) → Among x xs → Among y xs → c x y ≡ Equal → x ≡ y

  placed : (w x : K) (xs : List K) → KeysTell (x ∷ xs) → Among w (x ∷ xs) → (Among w xs → Among w (sorted c xs)) → Among w (sorted c (x ∷ xs))
  placed w x xs tell (inl same) next =
      let u = has_key x (λ y. y) (λ y e. e) (sorted c xs) in
      let one : x ≡ u.0 = tell x u.0 (inl refl) (among-from_sorted u.0 (x ∷ xs) u.1) u.2 in
      subst (λ z. Among z (sorted c (x ∷ xs))) (sym (same ∙ one)) u.1
  placed w x xs tell (inr a) next = put_itself w x (c x w) (sorted c xs) refl (sorted-sorted xs) (next a)

  pub among-sorted : (w : K) (xs : List K) → KeysTell xs → Among w xs → Among w (sorted c xs)
  among-sorted w [] tell a = a
  among-sorted w (x ∷ xs) tell a = placed w x xs tell a (among-sorted w xs (λ y z b d. tell y z (inr b) (inr d)))

  -- ---- a filter of a sorted list

  put_first : (x : K) (f : K → K) (ys : List K) → ((y : K) → Among y ys → c x y ≡ Less) → put (c x) x f ys ≡ x ∷ ys
  put_first x f [] h = refl
  put_first x f (y ∷ ys) h = rw (h y (inl refl)) refl

  module _ (p : K → Bool) (respects : (x y : K) → c x y ≡ Equal → p x ≡ p y) (x : K) where
    tied_step : (b : Bool) (y : K) (ys : List K) → p y ≡ b → c x y ≡ Equal → p x ≡ p y → cond b (y ∷ filter p ys) (filter p ys) ≡ cond (p x) (put (c x) x (λ z. z) (cond b (y ∷ filter p ys) (filter p ys))) (cond b (y ∷ filter p ys) (filter p ys))
    tied_step true y ys e tied same = rw (same ∙ e, tied) refl
    tied_step false y ys e tied same = rw (same ∙ e) refl

    behind_step : (a b : Bool) (y : K) (ys zs : List K) → c x y ≡ Greater → zs ≡ cond a (put (c x) x (λ z. z) ys) ys → cond b (y ∷ zs) zs ≡ cond a (put (c x) x (λ z. z) (cond b (y ∷ ys) ys)) (cond b (y ∷ ys) ys)
    behind_step true true y ys zs e h = rw (e, h) refl
    behind_step true false y ys zs e h = h
    behind_step false true y ys zs e h = ap (λ l. y ∷ l) h
    behind_step false false y ys zs e h = h

    filter_step : (o : Ordering) (y : K) (ys : List K) → c x y ≡ o → IsStrictlySortedBy c (y ∷ ys) → filter p (put (c x) x (λ z. z) ys) ≡ cond (p x) (put (c x) x (λ z. z) (filter p ys)) (filter p ys) →
        filter p (match_ordering o (x ∷ y ∷ ys) (y ∷ ys) (y ∷ put (c x) x (λ z. z) ys)) ≡ cond (p x) (put (c x) x (λ z. z) (filter p (y ∷ ys))) (filter p (y ∷ ys))
    filter_step Less y ys e s next =
        ap (λ l. cond (p x) l (filter p (y ∷ ys))) (sym (put_first x (λ z. z) (filter p (y ∷ ys)) (λ w a. below_all x y ys e s w (Among-from_filter p (y ∷ ys) w a).0)))
    filter_step Equal y ys e s next = tied_step (p y) y ys refl e (respects x y e)
    filter_step Greater y ys e s next = behind_step (p x) (p y) y (filter p ys) (filter p (put (c x) x (λ z. z) ys)) e next

    filter-put : (ys : List K) → IsStrictlySortedBy c ys → filter p (put (c x) x (λ z. z) ys) ≡ cond (p x) (put (c x) x (λ z. z) (filter p ys)) (filter p ys)
    filter-put [] s = refl
    filter-put (y ∷ ys) s = filter_step (c x y) y ys refl s (filter-put ys (sorted-rest c y ys s))

  sorted_if : (b : Bool) (p : K → Bool) (x : K) (xs : List K) → filter p (sorted c xs) ≡ sorted c (filter p xs) → cond b (put (c x) x (λ z. z) (filter p (sorted c xs))) (filter p (sorted c xs)) ≡ sorted c (cond b (x ∷ filter p xs) (filter p xs))
  sorted_if true p x xs h = ap (put (c x) x (λ z. z)) h
  sorted_if false p x xs h = h

  -- a test that doesn't tell elements of one key apart leaves of the sorted list what is sorted of what it leaves
  pub filter-sorted : (p : K → Bool) → ((x y : K) → c x y ≡ Equal → p x ≡ p y) → (xs : List K) → filter p (sorted c xs) ≡ sorted c (filter p xs)
  filter-sorted p respects [] = refl
  filter-sorted p respects (x ∷ xs) =
      filter-put p respects x (sorted c xs) (sorted-sorted xs) ∙ sorted_if (p x) p x xs (filter-sorted p respects xs)
