-- Of elements of one key the one that none beats: what is left where each in turn is put into its place.
use Rattle.std.proofs.Common.{◌≡◌, ◌∙◌, List, [], ◌∷◌, refl, sym, ap, subst, Bool, true, false, if◌then◌else◌, inl, inr}
use Rattle.std.specs.Cmp.{IsTotalOrder}
use Rattle.std.specs.List.Sorted.{IsStrictlySortedBy}
use Rattle.std.specs.declared.cmp.Ordering.{Ordering}
use Rattle.std.specs.declared.cmp.Ordering.TheVariants.{Less, Equal, Greater}
use Rattle.std.proofs.lemmas.Cmp.{tied_back, tied_itself}
use Rattle.table_spec.proofs.of_plain_laws.Members.{Among}
use Rattle.table_spec.proofs.of_plain_laws.StrictlySorted.{sorted-nil}
use Rattle.table_machine.specs.Places.{put}
use Rattle.table_machine.proofs.Risen.{Comes, is_new, is_changed, is_old, comes, sorted-put, has_key, among-old}

pub record IsBeating {K : Type 0} (below : K → K → Bool) : Type 0 where
  pub itself : (x : K) → below x x ≡ false
  pub back : (x y : K) → below x y ≡ true → below y x ≡ false
  pub further : (x y z : K) → below x y ≡ false → below y z ≡ false → below x z ≡ false

module _ {K : Type 0} (c : K → K → Ordering) (o : IsTotalOrder c) (below : K → K → Bool) (b : IsBeating below) where
  abbrev pub winner : K → K → K
  winner x y = if below x y then y else x

  abbrev pub best : List K → List K
  best [] = []
  best (x ∷ xs) = put (c x) x (winner x) (best xs)

  one_key : (t : Bool) (x y : K) → c x y ≡ Equal → c x (if t then y else x) ≡ Equal
  one_key true x y e = e
  one_key false x y e = tied_itself o x

  keeps : (x y : K) → c x y ≡ Equal → c x (winner x y) ≡ Equal
  keeps x y e = one_key (below x y) x y e

  pub sorted-best : (xs : List K) → IsStrictlySortedBy c (best xs)
  sorted-best [] = sorted-nil c
  sorted-best (x ∷ xs) = sorted-put c o x (winner x) (keeps x) (best xs) (sorted-best xs)

  -- ---- each key of the list is there

  tied_through : (x y z : K) → c x y ≡ Equal → c y z ≡ Equal → c x z ≡ Equal
  tied_through x y z e f = o.congr x y z e ∙ f

  abbrev Stands : K → List K → Type 0
  Stands v ys = (u : K) × Among u ys × (c v u ≡ Equal)

  moved : (v x u : K) (xs : List K) (p : Ordering) → c x u ≡ p → Among u (best xs) → c v u ≡ Equal → Stands v (best (x ∷ xs))
  moved v x u xs Less e a tied = (u, among-old c o x (winner x) (keeps x) u (best xs) (λ same. let apart : Less ≡ Equal = sym e ∙ same in cc) a, tied)
  moved v x u xs Equal e a tied =
      let found = has_key c o x (winner x) (keeps x) (best xs) in
      (found.0, found.1, tied_through v u found.0 tied (tied_through u x found.0 (tied_back o x u e) found.2))
  moved v x u xs Greater e a tied = (u, among-old c o x (winner x) (keeps x) u (best xs) (λ same. let apart : Greater ≡ Equal = sym e ∙ same in cc) a, tied)

  stands_step : (v x : K) (xs : List K) → Among v (x ∷ xs) → (Among v xs → Stands v (best xs)) → Stands v (best (x ∷ xs))
  stands_step v x xs (inl same) next =
      let found = has_key c o x (winner x) (keeps x) (best xs) in (found.0, found.1, ap (λ z. c z found.0) same ∙ found.2)
  stands_step v x xs (inr a) next = let found = next a in moved v x found.0 xs (c x found.0) refl found.1 found.2

  pub stands : (v : K) (xs : List K) → Among v xs → Stands v (best xs)
  stands v [] a = absurd a
  stands v (x ∷ xs) a = stands_step v x xs a (stands v xs)

  -- ---- what is there is unbeaten

  pub record IsUnbeaten (w : K) (xs : List K) : Type 0 where
    pub among : Among w xs
    pub unbeaten : (v : K) → Among v xs → c w v ≡ Equal → below w v ≡ false

  new_unbeaten : (x : K) (xs : List K) → ((y : K) → Among y (best xs) → c x y ≡ Equal → ⊥) → (v : K) → Among v (x ∷ xs) → c x v ≡ Equal → below x v ≡ false
  new_unbeaten x xs none v (inl same) tied = ap (below x) same ∙ b.itself x
  new_unbeaten x xs none v (inr a) tied = let found = stands v xs a in absurd (none found.0 found.1 (tied_through x v found.0 tied found.2))

  stays_unbeaten : (x y : K) (xs : List K) → below x y ≡ true → IsUnbeaten y xs → (v : K) → Among v (x ∷ xs) → c y v ≡ Equal → below y v ≡ false
  stays_unbeaten x y xs e h v (inl same) tied = ap (below y) same ∙ b.back x y e
  stays_unbeaten x y xs e h v (inr a) tied = h.unbeaten v a tied

  takes_over : (x y : K) (xs : List K) → c x y ≡ Equal → below x y ≡ false → IsUnbeaten y xs → (v : K) → Among v (x ∷ xs) → c x v ≡ Equal → below x v ≡ false
  takes_over x y xs e f h v (inl same) tied = ap (below x) same ∙ b.itself x
  takes_over x y xs e f h v (inr a) tied = b.further x y v f (h.unbeaten v a (tied_through y x v (tied_back o x y e) tied))

  of_two : (t : Bool) (x y : K) (xs : List K) → below x y ≡ t → c x y ≡ Equal → IsUnbeaten y xs → IsUnbeaten (if t then y else x) (x ∷ xs)
  of_two true x y xs e tied h = record { among = inr h.among; unbeaten = stays_unbeaten x y xs e h }
  of_two false x y xs e tied h = record { among = inl refl; unbeaten = takes_over x y xs tied e h }

  apart_unbeaten : (x w : K) (xs : List K) → (c x w ≡ Equal → ⊥) → IsUnbeaten w xs → (v : K) → Among v (x ∷ xs) → c w v ≡ Equal → below w v ≡ false
  apart_unbeaten x w xs apart h v (inl same) tied = absurd (apart (tied_back o w x (ap (c w) (sym same) ∙ tied)))
  apart_unbeaten x w xs apart h v (inr a) tied = h.unbeaten v a tied

  unbeaten_step : (w x : K) (xs : List K) → Comes c o x (winner x) (keeps x) w (best xs) → ((v : K) → Among v (best xs) → IsUnbeaten v xs) → IsUnbeaten w (x ∷ xs)
  unbeaten_step w x xs (is_new same none) next = subst (λ z. IsUnbeaten z (x ∷ xs)) (sym same) (record { among = inl refl; unbeaten = new_unbeaten x xs none })
  unbeaten_step w x xs (is_changed y a tied same) next = subst (λ z. IsUnbeaten z (x ∷ xs)) (sym same) (of_two (below x y) x y xs refl tied (next y a))
  unbeaten_step w x xs (is_old a apart) next = let h = next w a in record { among = inr h.among; unbeaten = apart_unbeaten x w xs apart h }

  pub best_is_unbeaten : (w : K) (xs : List K) → Among w (best xs) → IsUnbeaten w xs
  best_is_unbeaten w [] a = absurd a
  best_is_unbeaten w (x ∷ xs) a =
      unbeaten_step w x xs (comes c o x (winner x) (keeps x) w (best xs) (sorted-best xs) a) (λ v d. best_is_unbeaten v xs d)

  -- ---- and what is unbeaten is there

  -- no two of one key beat each other not
  abbrev pub BeatingTells : List K → Type 0
  BeatingTells xs = (x y : K) → Among x xs → Among y xs → c x y ≡ Equal → below x y ≡ false → below y x ≡ false → x ≡ y

  pub unbeaten_is_best : (w : K) (xs : List K) → BeatingTells xs → IsUnbeaten w xs → Among w (best xs)
  unbeaten_is_best w xs tell h =
      let found = stands w xs h.among in
      let other = best_is_unbeaten found.0 xs found.1 in
      let one : w ≡ found.0 = tell w found.0 h.among other.among found.2 (h.unbeaten found.0 other.among found.2) (other.unbeaten w h.among (tied_back o w found.0 found.2)) in
      subst (λ z. Among z (best xs)) (sym one) found.1
