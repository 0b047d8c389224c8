-- Places in preorder, and the first fault of several parts.
use Rattle.std.proofs.Common.{◌≡◌, ◌∙◌, ◌⊎◌, inl, inr, ◌<◌, ◌≤◌, ℕ, [], ◌∷◌, ◌++◌, Bool, true, false, Option, Some, None, arith, refl, sym, ap, subst, append_assoc}
use Rattle.std.specs.Prelude.{not}
use Rattle.std.proofs.lemmas.List.{append-nil}
use Rattle.query_spec.specs.Check.{Place, at_fault, first}
use Rattle.query_laws.specs.Faults.{IsAtOrBefore, IsFirst}

-- ---- places

same_front : (p a b : Place) → IsAtOrBefore a b → IsAtOrBefore (p ++ a) (p ++ b)
same_front [] a b h = h
same_front (i ∷ p) a b h = inr (refl, same_front p a b h)

at_itself : (p : Place) → IsAtOrBefore p p
at_itself [] = tt
at_itself (i ∷ p) = inr (refl, at_itself p)

-- the place or one below it
abbrev pub IsIn : Place → Place → Type 0
IsIn p q = (r : Place) × (q ≡ p ++ r)

-- element i of the list there or one to its right, or a place below these
abbrev pub IsFrom : Place → ℕ → Place → Type 0
IsFrom p i q = (m : ℕ) × (r : Place) × (i ≤ m) × (q ≡ p ++ m ∷ r)

pub under : (p q : Place) → IsIn p q → IsAtOrBefore p q
under p q h =
    subst (λ x. IsAtOrBefore p x) (sym h.1) (subst (λ x. IsAtOrBefore x (p ++ h.0)) (append-nil p) (same_front p [] h.0 tt))

-- an element comes before the later ones
pub apart : (p : Place) (i j : ℕ) (q t : Place) → i < j → IsIn (p ++ i ∷ []) q → IsFrom p j t → IsAtOrBefore q t
apart p i j q t less h k =
    let low : j ≤ k.0 = k.2 in
    let left : i < k.0 = omega arith in
    let e : q ≡ p ++ i ∷ h.0 = h.1 ∙ append_assoc p (i ∷ []) h.0 in
    subst (λ x. IsAtOrBefore x t) (sym e) (subst (λ x. IsAtOrBefore (p ++ i ∷ h.0) x) (sym k.3) (same_front p (i ∷ h.0) (k.0 ∷ k.1) (inl left)))

pub here_in : (p q : Place) → q ≡ p → IsIn p q
here_in p q h = ([], h ∙ sym (append-nil p))

pub below_in : (p c q : Place) → IsIn (p ++ c) q → IsIn p q
below_in p c q h = (c ++ h.0, h.1 ∙ append_assoc p c h.0)

pub element_from : (p : Place) (i : ℕ) (q : Place) → IsIn (p ++ i ∷ []) q → IsFrom p i q
element_from p i q h = (i, h.0, omega arith, h.1 ∙ append_assoc p (i ∷ []) h.0)

pub later_from : (p : Place) (i j : ℕ) (q : Place) → i ≤ j → IsFrom p j q → IsFrom p i q
later_from p i j q low h = let more : j ≤ h.0 = h.2 in (h.0, h.1, omega arith, h.3)

pub from_in : (p : Place) (i : ℕ) (q : Place) → IsFrom p i q → IsIn p q
from_in p i q h = (h.0 ∷ h.1, h.3)

-- ---- a part, of which each fault stands in a region

pub record Sits (R : Place → Type 0) (told : Option Place) (F : Place → Type 0) : Type 0 where
  pub is_first : IsFirst told F
  pub stands : (q : Place) → F q → R q

no_some : (p : Place) → None ≡ Some p → ⊥
no_some p e = cc

no_true : false ≡ true → ⊥
no_true e = cc

same_some : (p q : Place) → Some p ≡ Some q → q ≡ p
same_some p q e = cc

pub none_sits : (R : Place → Type 0) → Sits R None (λ q. ⊥)
none_sits R = record {
  is_first = record { is_fault = λ p e. no_some p e; comes_first = λ q f. absurd f };
  stands = λ q f. absurd f;
}

pub mapped : (R W : Place → Type 0) {told : Option Place} {F : Place → Type 0} (G : Place → Type 0) → Sits R told F → ((q : Place) → F q → G q) → ((q : Place) → G q → F q) → ((q : Place) → R q → W q) → Sits W told G
mapped R W G h to from wide = record {
  is_first = record { is_fault = λ p e. to p (h.is_first.is_fault p e); comes_first = λ q g. h.is_first.comes_first q (from q g) };
  stands = λ q g. wide q (h.stands q (from q g));
}

pub widened : (R W : Place → Type 0) {told : Option Place} {F : Place → Type 0} → Sits R told F → ((q : Place) → R q → W q) → Sits W told F
widened R W h wide = record { is_first = h.is_first; stands = λ q f. wide q (h.stands q f) }

-- a fault at one place, by a test
pub fault_sits : (b : Bool) (p : Place) (A : Type 0) → (b ≡ true → A) → (A → b ≡ true) → Sits (λ q. q ≡ p) (at_fault b p) (λ q. A × (q ≡ p))
fault_sits true p A to from = record {
  is_first = record {
    is_fault = λ q e. (to refl, same_some p q e);
    comes_first = λ q f. (p, refl, subst (λ x. IsAtOrBefore p x) (sym f.1) (at_itself p));
  };
  stands = λ q f. f.1;
}
fault_sits false p A to from = record {
  is_first = record { is_fault = λ q e. absurd (no_some q e); comes_first = λ q f. absurd (no_true (from f.0)) };
  stands = λ q f. f.1;
}

pub true_sits : (b : Bool) (p : Place) → Sits (λ q. q ≡ p) (at_fault b p) (λ q. (b ≡ true) × (q ≡ p))
true_sits b p = fault_sits b p (b ≡ true) (λ h. h) (λ h. h)

not_false : (b : Bool) → not b ≡ true → b ≡ false
not_false true h = absurd (no_true h)
not_false false h = refl

pub false_sits : (b : Bool) (p : Place) → Sits (λ q. q ≡ p) (at_fault (not b) p) (λ q. (b ≡ false) × (q ≡ p))
false_sits b p = fault_sits (not b) p (b ≡ false) (not_false b) (λ h. ap not h)

pub some_sits : (p : Place) → Sits (λ q. q ≡ p) (Some p) (λ q. q ≡ p)
some_sits p = record {
  is_first = record {
    is_fault = λ q e. same_some p q e;
    comes_first = λ q f. (p, refl, subst (λ x. IsAtOrBefore p x) (sym f) (at_itself p));
  };
  stands = λ q f. f;
}

-- two parts, the first before the second
pub joined : (W : Place → Type 0) (a b : Option Place) {F G : Place → Type 0} → Sits W a F → Sits W b G → ((p q : Place) → F p → G q → IsAtOrBefore p q) → Sits W (first a b) (λ q. F q ⊎ G q)
joined W None b ha hb before = record {
  is_first = record {
    is_fault = λ p e. inr (hb.is_first.is_fault p e);
    comes_first = λ q s. elim s [
      | inl f ↦ absurd (no_some (ha.is_first.comes_first q f).0 (ha.is_first.comes_first q f).1)
      | inr g ↦ hb.is_first.comes_first q g
    ];
  };
  stands = λ q s. elim s [ inl f ↦ ha.stands q f | inr g ↦ hb.stands q g ];
}
joined W (Some x) b ha hb before = record {
  is_first = record {
    is_fault = λ p e. inl (ha.is_first.is_fault p e);
    comes_first = λ q s. elim s [
      | inl f ↦ ha.is_first.comes_first q f
      | inr g ↦ (x, refl, before x q (ha.is_first.is_fault x refl) g)
    ];
  };
  stands = λ q s. elim s [ inl f ↦ ha.stands q f | inr g ↦ hb.stands q g ];
}

-- an element, then those from a later one on
pub then_from : (p : Place) (i j : ℕ) (a b : Option Place) {F G : Place → Type 0} → i < j → Sits (IsIn (p ++ i ∷ [])) a F → Sits (IsFrom p j) b G → Sits (IsFrom p i) (first a b) (λ q. F q ⊎ G q)
then_from p i j a b less ha hb =
    let low : i ≤ j = omega arith in
    joined (IsFrom p i) a b (widened (IsIn (p ++ i ∷ [])) (IsFrom p i) ha (element_from p i))
    (widened (IsFrom p j) (IsFrom p i) hb (λ q h. later_from p i j q low h))
    (λ x y f g. apart p i j x y less (ha.stands x f) (hb.stands y g))

-- one element of a list
pub alone : (p : Place) (a : Option Place) {F : Place → Type 0} → Sits (IsIn p) a F → Sits (IsIn p) (first a None) (λ q. F q ⊎ ⊥)
alone p a h = joined (IsIn p) a None h (none_sits (IsIn p)) (λ x y f g. absurd g)
