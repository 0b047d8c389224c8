-- Texts that fall: the last is the least, and comes first where they are sorted.
use Rattle.std.proofs.Common.{◌≡◌, ◌∙◌, ℕ, zero, suc, ◌+◌, List, [], ◌∷◌, ◌++◌, length, get_or, Bool, true, false, refl, sym, ap, subst, arith}
use Rattle.std.specs.Str.{bytes_eq}
use Rattle.std.specs.List.Sorted.{IsSortedBy}
use Rattle.std.specs.Ordering.{is_lt, match_ordering, ordering_reverse}
use Rattle.std.specs.declared.cmp.Ordering.{Ordering}
use Rattle.std.specs.declared.cmp.Ordering.TheVariants.{Less, Equal, Greater}
use Rattle.std.specs.Cmp.{IsStrictWeakOrder}
use Rattle.std.proofs.lemmas.Cmp.{tied_itself}
use Rattle.std.proofs.lemmas.List.Sorted.{ranks_by, IsStrictWeakOrder-flip}
use Rattle.std.proofs.lemmas.Slice.Eq.{bytes_eq-Decides}
use Rattle.wire_fields.specs.text_spec.Compact.{text_cmp}
use Rattle.wire_fields.specs.fleet_rows.Texts.{insert_text, sorted_texts}
use Rattle.wire_fields.proofs.of_wire_spec.of_text_spec.TextOrder.{text_tied}
use Rattle.wire_laws.proofs.SortedTexts.{text_cmp_total, turned_less}
use Rattle.wire_catalog.specs.Ends.{ends_with}

-- whether the one stands before the other in a list that falls
abbrev pub falls : List ℕ → List ℕ → Bool
falls x y = is_lt (text_cmp y x)

pub falls-weak : IsStrictWeakOrder falls
falls-weak = IsStrictWeakOrder-flip (λ x y. is_lt (text_cmp x y)) (ranks_by text_cmp_total (λ x. x))

-- none is below the next
abbrev pub Fall : List (List ℕ) → Type 0
Fall [] = Unit {0}
Fall (x ∷ []) = Unit {0}
Fall (x ∷ y ∷ ys) = (is_lt (text_cmp x y) ≡ false) × Fall (y ∷ ys)

pub fall-sorted : (xs : List (List ℕ)) → IsSortedBy falls xs → Fall xs
fall-sorted [] s = tt
fall-sorted (x ∷ []) s = tt
fall-sorted (x ∷ y ∷ ys) s = (
  s zero [] (omega arith) (omega arith),
  fall-sorted (y ∷ ys) (λ k d low lt.
      let next : suc k + 1 ≡ suc (k + 1) = omega arith in
      subst (λ n. falls (get_or (x ∷ y ∷ ys) n d) (get_or (y ∷ ys) k d) ≡ false) next (s (suc k) d (omega arith) (omega (arith, lt)))),
)

pub fall-front : (xs : List (List ℕ)) (x : List ℕ) → Fall (xs ++ x ∷ []) → Fall xs
fall-front [] x f = tt
fall-front (y ∷ []) x f = tt
fall-front (y ∷ z ∷ zs) x f = (f.0, fall-front (z ∷ zs) x f.1)

-- ---- what comes last

pub ends-last : (xs : List (List ℕ)) (n : ℕ) (t d : List ℕ) → length xs ≡ suc n → ends_with xs t ≡ bytes_eq (get_or xs n d) t
ends-last [] n t d h = absurd (omega (arith, h))
ends-last (x ∷ []) n t d h = let one : 0 ≡ n = omega (arith, h) in ap (λ k. bytes_eq (get_or (x ∷ []) k d) t) one
ends-last (x ∷ y ∷ ys) zero t d h = absurd (omega (arith, h))
ends-last (x ∷ y ∷ ys) (suc n) t d h = ends-last (y ∷ ys) n t d (omega (arith, h))

-- all are above it
abbrev Above : List ℕ → List (List ℕ) → Type 0
Above x [] = Unit {0}
Above x (y ∷ ys) = (text_cmp y x ≡ Greater) × Above x ys

last_step : (o : Ordering) (x y : List ℕ) → text_cmp y x ≡ o → is_lt o ≡ false → bytes_eq y x ≡ false → o ≡ Greater
last_step Less x y e h k = cc
last_step Equal x y e h k = absurd (let same : bytes_eq y x ≡ true = (bytes_eq-Decides y x).1 (text_tied y x e) in cc)
last_step Greater x y e h k = refl

above_step : (o : Ordering) (x y z : List ℕ) → text_cmp y z ≡ o → is_lt o ≡ false → text_cmp z x ≡ Greater → text_cmp y x ≡ Greater
above_step Less x y z e h k = cc
above_step Equal x y z e h k = text_cmp_total.congr y z x e ∙ k
above_step Greater x y z e h k = text_cmp_total.antisymm y x ∙ ap ordering_reverse (text_cmp_total.trans x z y (turned_less z x k) (turned_less y z e))

pub above : (xs : List (List ℕ)) (x : List ℕ) → Fall (xs ++ x ∷ []) → ends_with xs x ≡ false → Above x xs
above [] x f e = tt
above (y ∷ []) x f e = (last_step (text_cmp y x) x y refl f.0 e, tt)
above (y ∷ z ∷ zs) x f e =
    let rest = above (z ∷ zs) x f.1 e in
    (above_step (text_cmp y z) x y z refl f.0 rest.0, rest)

-- ---- what they are sorted to

pub least : (xs : List (List ℕ)) (x : List ℕ) → Above x xs → sorted_texts (xs ++ x ∷ []) ≡ x ∷ sorted_texts xs
least [] x a = refl
least (y ∷ ys) x a =
    ap (insert_text y) (least ys x a.1)
    ∙ ap (λ o. match_ordering o (y ∷ x ∷ sorted_texts ys) (x ∷ sorted_texts ys) (x ∷ insert_text y (sorted_texts ys))) a.0

pub again : (xs : List (List ℕ)) (x : List ℕ) → ends_with xs x ≡ true → sorted_texts (xs ++ x ∷ []) ≡ sorted_texts xs
again [] x e = cc
again (y ∷ []) x e =
    let same : y ≡ x = (bytes_eq-Decides y x).0 e in
    ap (λ o. match_ordering o (y ∷ x ∷ []) (x ∷ []) (x ∷ y ∷ [])) (ap (λ t. text_cmp t x) same ∙ tied_itself text_cmp_total x) ∙ (λ i. sym same i ∷ [])
again (y ∷ z ∷ zs) x e = ap (insert_text y) (again (z ∷ zs) x e)
