-- What is sorted by insertion: its members are those of the list, and it rises where no two of them have one key.
use Rattle.std.proofs.Common.{◌≡◌, List, [], ◌∷◌, refl, Bool, true, false, if◌then◌else◌, inl, inr}
use Rattle.std.specs.Cmp.{IsTotalOrder}
use Rattle.std.specs.List.Sorted.{IsStrictlySortedBy}
use Rattle.std.specs.Ordering.{is_gt}
use Rattle.std.specs.declared.cmp.Ordering.{Ordering}
use Rattle.std.specs.declared.cmp.Ordering.TheVariants.{Less, Equal, Greater}
use Rattle.table_machine.proofs.of_plain_laws.Members.{Among}
use Rattle.table_machine.proofs.of_plain_laws.StrictlySorted.{sorted-nil, sorted-cons, sorted-below, sorted-rest}
use Rattle.table_machine.specs.table_spec.Sorted.{insert_by, sorted_by}
use Rattle.table_machine.proofs.Risen.{turned_less, below_all}

module _ {K : Type 0} (c : K → K → Ordering) where
  from_step : (b : Bool) (w x y : K) (ys more : List K) → (Among w more → Among w (x ∷ ys)) → Among w (if b then y ∷ more else x ∷ y ∷ ys) → Among w (x ∷ y ∷ ys)
  from_step true w x y ys more next (inl same) = inr (inl same)
  from_step true w x y ys more next (inr a) = elim (next a) [ inl same ↦ inl same | inr d ↦ inr (inr d) ]
  from_step false w x y ys more next a = a

  pub among-from_insert : (w x : K) (ys : List K) → Among w (insert_by c x ys) → Among w (x ∷ ys)
  among-from_insert w x [] a = a
  among-from_insert w x (y ∷ ys) a = from_step (is_gt (c x y)) w x y ys (insert_by c x ys) (among-from_insert w x ys) a

  pub among-from_sorted_by : (w : K) (xs : List K) → Among w (sorted_by c xs) → Among w xs
  among-from_sorted_by w [] a = a
  among-from_sorted_by w (x ∷ xs) a = elim (among-from_insert w x (sorted_by c xs) a) [ inl same ↦ inl same | inr d ↦ inr (among-from_sorted_by w xs d) ]

  to_step : (b : Bool) (w x y : K) (ys more : List K) → (Among w (x ∷ ys) → Among w more) → Among w (x ∷ y ∷ ys) → Among w (if b then y ∷ more else x ∷ y ∷ ys)
  to_step true w x y ys more next (inl same) = inr (next (inl same))
  to_step true w x y ys more next (inr (inl same)) = inl same
  to_step true w x y ys more next (inr (inr a)) = inr (next (inr a))
  to_step false w x y ys more next a = a

  among-insert : (w x : K) (ys : List K) → Among w (x ∷ ys) → Among w (insert_by c x ys)
  among-insert w x [] a = a
  among-insert w x (y ∷ ys) a = to_step (is_gt (c x y)) w x y ys (insert_by c x ys) (among-insert w x ys) a

  further : (w x : K) (xs ys : List K) → (Among w xs → Among w ys) → Among w (x ∷ xs) → Among w (x ∷ ys)
  further w x xs ys next (inl same) = inl same
  further w x xs ys next (inr a) = inr (next a)

  pub among-sorted_by : (w : K) (xs : List K) → Among w xs → Among w (sorted_by c xs)
  among-sorted_by w [] a = a
  among-sorted_by w (x ∷ xs) a = among-insert w x (sorted_by c xs) (further w x xs (sorted_by c xs) (among-sorted_by w xs) a)

  -- ---- order

  module _ (o : IsTotalOrder c) where
    -- no two of these have one key
    abbrev pub Apart : List K → Type 0
    Apart [] = Unit {0}
    Apart (x ∷ xs) = ((y : K) → Among y xs → c x y ≡ Equal → ⊥) × Apart xs

    insert_step : (p : Ordering) (x y : K) (ys : List K) → c x y ≡ p → (c x y ≡ Equal → ⊥) → IsStrictlySortedBy c (y ∷ ys) → IsStrictlySortedBy c (insert_by c x ys) → IsStrictlySortedBy c (if is_gt p then y ∷ insert_by c x ys else x ∷ y ∷ ys)
    insert_step Less x y ys e apart s next = sorted-cons c x (y ∷ ys) (below_all c o x y ys e s) s
    insert_step Equal x y ys e apart s next = absurd (apart e)
    insert_step Greater x y ys e apart s next =
        sorted-cons c y (insert_by c x ys) (λ w a. elim (among-from_insert w x ys a) [ inl same ↦ rw same (turned_less c o x y e) | inr d ↦ sorted-below c y ys s w d ]) next

    sorted-insert : (x : K) (ys : List K) → ((y : K) → Among y ys → c x y ≡ Equal → ⊥) → IsStrictlySortedBy c ys → IsStrictlySortedBy c (insert_by c x ys)
    sorted-insert x [] apart s = sorted-cons c x [] (λ w a. absurd a) s
    sorted-insert x (y ∷ ys) apart s =
        insert_step (c x y) x y ys refl (apart y (inl refl)) s (sorted-insert x ys (λ z a. apart z (inr a)) (sorted-rest c y ys s))

    pub sorted_by-sorted : (xs : List K) → Apart xs → IsStrictlySortedBy c (sorted_by c xs)
    sorted_by-sorted [] apart = sorted-nil c
    sorted_by-sorted (x ∷ xs) apart =
        sorted-insert x (sorted_by c xs) (λ y a. apart.0 y (among-from_sorted_by y xs a)) (sorted_by-sorted xs apart.1)
