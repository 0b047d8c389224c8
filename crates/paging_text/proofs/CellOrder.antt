-- The order of cells is total, and so is that of rows by columns.
use Rattle.std.proofs.Common.{◌≡◌, ◌∙◌, ℕ, List, [], ◌∷◌, Bool, true, false, refl, sym, ap, subst, inl, inr, is_some, if◌then◌else◌}
use Rattle.std.specs.Cmp.{IsTotalOrder}
use Rattle.std.specs.Ordering.{nat_cmp, ordering_then, ordering_reverse, is_gt}
use Rattle.std.specs.declared.cmp.Ordering.{Ordering}
use Rattle.std.specs.declared.cmp.Ordering.TheVariants.{Less, Equal, Greater}
use Rattle.std.proofs.lemmas.Cmp.{nat_cmp_total, int_cmp_total, alike_right, on_total, then_total, back_total}
use Rattle.means_spec.specs.text_spec.Json.{Json, null, boolean, number, string, array, object}
use Rattle.means_spec.specs.text_spec.Compact.{arranged}
use Rattle.means_spec.specs.text_spec.Number.{scaled}
use Rattle.means_spec.specs.text_spec.Order.{class_of, class_order, order}
use Rattle.means_spec.proofs.of_text_laws.OrderLaws.{order_is_total}
use Rattle.means_spec.specs.fleet_rows.Cell.{CellValue, cell_cmp}
use Rattle.means_spec.specs.Cells.{cell_under}
use Rattle.means_spec.specs.Paging.{order_cmp, orders_cmp}
use Rattle.means_spec.specs.query_spec.declared.parts.Order.{Order}

-- ---- classes

class-arranged : (j : Json) → class_of (arranged j) ≡ class_of j
class-arranged null = refl
class-arranged (boolean b) = refl
class-arranged (number s) = refl
class-arranged (string s) = refl
class-arranged (array js) = refl
class-arranged (object ms) = refl

-- the class comes first
abbrev classes : Json → Json → Ordering
classes i j = nat_cmp (class_of i) (class_of j)

order-is : (i j : Json) → order i j ≡ ordering_then (classes i j) (class_order (arranged i) (arranged j))
order-is i j = λ k. ordering_then (nat_cmp (class-arranged i k) (class-arranged j k)) (class_order (arranged i) (arranged j))

first-less : (r s o : Ordering) → o ≡ ordering_then r s → r ≡ Less → o ≡ Less
first-less Less s o e h = e
first-less Equal s o e h = cc
first-less Greater s o e h = cc

first-not-greater : (r s o : Ordering) → o ≡ ordering_then r s → o ≡ Less → is_gt r ≡ false
first-not-greater Less s o e h = refl
first-not-greater Equal s o e h = refl
first-not-greater Greater s o e h = absurd (let apart : Greater ≡ Less = sym e ∙ h in cc)

first-equal : (r s o : Ordering) → o ≡ ordering_then r s → o ≡ Equal → r ≡ Equal
first-equal Less s o e h = absurd (let apart : Less ≡ Equal = sym e ∙ h in cc)
first-equal Equal s o e h = refl
first-equal Greater s o e h = absurd (let apart : Greater ≡ Equal = sym e ∙ h in cc)

-- no value has the class of moments
not-one-if : (b : Bool) (m n : ℕ) → nat_cmp 1 m ≡ Less → nat_cmp 1 n ≡ Less → nat_cmp 1 (if b then m else n) ≡ Less
not-one-if true m n h k = h
not-one-if false m n h k = k

less-or-greater : (j : Json) → nat_cmp 1 (class_of j) ≡ Equal → ⊥
less-or-greater null h = cc
less-or-greater (boolean b) h = let less = not-one-if b 3 2 refl refl in let apart : Less ≡ Equal = sym less ∙ h in cc
less-or-greater (number s) h = let less = not-one-if (is_some (scaled s)) 4 5 refl refl in let apart : Less ≡ Equal = sym less ∙ h in cc
less-or-greater (string s) h = cc
less-or-greater (array js) h = cc
less-or-greater (object ms) h = cc

back-equal : (m n : ℕ) → nat_cmp m n ≡ Equal → nat_cmp n m ≡ Equal
back-equal m n h = nat_cmp_total.antisymm n m ∙ ap ordering_reverse h

-- ---- two steps in a total order

module _ {K : Type 0} (R : K → K → Ordering) (o : IsTotalOrder R) where
  -- below what isn't above
  below-up : (x y z : K) (r : Ordering) → R y z ≡ r → R x y ≡ Less → is_gt r ≡ false → R x z ≡ Less
  below-up x y z Less e h g = o.trans x y z h e
  below-up x y z Equal e h g = sym (alike_right o y z x e) ∙ h
  below-up x y z Greater e h g = cc

  -- not above what is above
  up-below : (x y z : K) (r : Ordering) → R x y ≡ r → is_gt r ≡ false → R y z ≡ Less → R x z ≡ Less
  up-below x y z Less e g h = o.trans x y z e h
  up-below x y z Equal e g h = o.congr x y z e ∙ h
  up-below x y z Greater e g h = cc

  turned : (b : Bool) → IsTotalOrder (λ x y. if b then ordering_reverse (R x y) else R x y)
  turned true = subst IsTotalOrder (λ i x y. o.antisymm y x i) (back_total o)
  turned false = o

-- ---- cells

trans : (x y z : CellValue) → cell_cmp x y ≡ Less → cell_cmp y z ≡ Less → cell_cmp x z ≡ Less
trans (inl k) (inl m) (inl n) h g = int_cmp_total.trans k m n h g
trans (inl k) (inl m) (inr j) h g = g
trans (inl k) (inr i) (inl n) h g = absurd (let apart : nat_cmp 1 1 ≡ Less = nat_cmp_total.trans 1 (class_of i) 1 h g in cc)
trans (inl k) (inr i) (inr j) h g = below-up nat_cmp nat_cmp_total 1 (class_of i) (class_of j) (classes i j) refl h (first-not-greater (classes i j) _ (order i j) (order-is i j) g)
trans (inr i) (inl m) (inl n) h g = h
trans (inr i) (inl m) (inr k) h g = first-less (classes i k) _ (order i k) (order-is i k) (nat_cmp_total.trans (class_of i) 1 (class_of k) h g)
trans (inr i) (inr j) (inl n) h g = up-below nat_cmp nat_cmp_total (class_of i) (class_of j) 1 (classes i j) refl (first-not-greater (classes i j) _ (order i j) (order-is i j) h) g
trans (inr i) (inr j) (inr k) h g = order_is_total.trans i j k h g

congr : (x y z : CellValue) → cell_cmp x y ≡ Equal → cell_cmp x z ≡ cell_cmp y z
congr (inl k) (inl m) (inl n) h = int_cmp_total.congr k m n h
congr (inl k) (inl m) (inr j) h = refl
congr (inl k) (inr i) z h = absurd (less-or-greater i h)
congr (inr i) (inl m) z h = absurd (less-or-greater i (back-equal (class_of i) 1 h))
congr (inr i) (inr j) (inl n) h = nat_cmp_total.congr (class_of i) (class_of j) 1 (first-equal (classes i j) _ (order i j) (order-is i j) h)
congr (inr i) (inr j) (inr k) h = order_is_total.congr i j k h

antisymm : (x y : CellValue) → cell_cmp x y ≡ ordering_reverse (cell_cmp y x)
antisymm (inl m) (inl n) = int_cmp_total.antisymm m n
antisymm (inl m) (inr j) = nat_cmp_total.antisymm 1 (class_of j)
antisymm (inr i) (inl n) = nat_cmp_total.antisymm (class_of i) 1
antisymm (inr i) (inr j) = order_is_total.antisymm i j

pub cell_total : IsTotalOrder cell_cmp
cell_total = record { antisymm = antisymm; trans = trans; congr = congr }

-- ---- rows

order_total : (names : List (List ℕ)) (o : Order) → IsTotalOrder (order_cmp names o)
order_total names o = turned (λ a b. cell_cmp (cell_under names o.column.text a) (cell_under names o.column.text b)) (on_total (cell_under names o.column.text) cell_total) o.descends

pub orders_total : (names : List (List ℕ)) (os : List Order) → IsTotalOrder (orders_cmp names os)
orders_total names [] = record { antisymm = λ a b. refl; trans = λ a b c h g. h; congr = λ a b c h. refl }
orders_total names (o ∷ os) = then_total (order_total names o) (orders_total names os)
