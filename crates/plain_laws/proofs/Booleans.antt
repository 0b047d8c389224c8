-- Tests, and the facts that they tell.
use Rattle.std.proofs.Common.{◌≡◌, ◌⊎◌, ℕ, refl, Bool, true, false, ◌||◌, ◌&&◌, ◌==◌, not, eqb, if◌then◌else◌, arith}

-- ---- both of two

pub both_true : (a b : Bool) → (a && b) ≡ true → (a ≡ true) × (b ≡ true)
both_true true b h = (refl, h)
both_true false b h = absurd (let apart : false ≡ true = h in cc)

pub true_both : (a b : Bool) → a ≡ true → b ≡ true → (a && b) ≡ true
true_both a b h g = rw (h, g) refl

pub not_both : (a b : Bool) → a ≡ false → (a && b) ≡ false
not_both a b h = rw h refl

-- ---- one of two

pub neither : (a b : Bool) → (a || b) ≡ false → (a ≡ false) × (b ≡ false)
neither true b h = absurd (let apart : true ≡ false = h in cc)
neither false b h = (refl, h)

pub or_falses : (a b : Bool) → a ≡ false → b ≡ false → (a || b) ≡ false
or_falses true b e f = absurd (let apart : true ≡ false = e in cc)
or_falses false b e f = f

pub or_left : (a b : Bool) → a ≡ true → (a || b) ≡ true
or_left true b h = refl
or_left false b h = absurd (let apart : false ≡ true = h in cc)

pub or_right : (a b : Bool) → b ≡ true → (a || b) ≡ true
or_right true b h = refl
or_right false b h = h

-- ---- what a test chooses

pub if_true : {A : Type 0} (b : Bool) (x y : A) → b ≡ true → (if b then x else y) ≡ x
if_true true x y h = refl
if_true false x y h = absurd (let apart : false ≡ true = h in cc)

pub if_false : {A : Type 0} (b : Bool) (x y : A) → b ≡ false → (if b then x else y) ≡ y
if_false true x y h = absurd (let apart : true ≡ false = h in cc)
if_false false x y h = refl

pub either : {A : Type 0} (P : A → Type 0) (b : Bool) (x y : A) → P x → P y → P (if b then x else y)
either P true x y p q = p
either P false x y p q = q

-- ---- no test comes out both ways

pub no_truth : {P : Type 0} → false ≡ true → P
no_truth h = absurd (never h)
  where
    never : false ≡ true → ⊥
    never h = cc

pub not_true : (b : Bool) → (b ≡ true → ⊥) → not b ≡ true
not_true true h = absurd (h refl)
not_true false h = refl

pub both_ways : (b : Bool) → b ≡ true → b ≡ false → ⊥
both_ways true h g = cc
both_ways false h g = cc

pub never : {P : Type 0} (b : Bool) → b ≡ true → b ≡ false → P
never b h g = absurd (both_ways b h g)

pub not_so : (b : Bool) → (b ≡ true → ⊥) → b ≡ false
not_so true h = absurd (h refl)
not_so false h = refl

-- ---- equal numbers

pub eqb-refl : (n : ℕ) → eqb n n ≡ true
eqb-refl n = grind arith

pub eq_true : (a b : ℕ) → a ≡ b → (a == b) ≡ true
eq_true a b h = grind arith

pub eq_not : (a b : ℕ) → ¬ (a ≡ b) → (a == b) ≡ false
eq_not a b h = grind arith

pub eq_is : (a b : ℕ) → (a == b) ≡ true → a ≡ b
eq_is a b h = grind arith

pub neq_is : (a b : ℕ) → (a == b) ≡ false → a ≡ b → ⊥
neq_is a b h e = grind arith

pub either_is : (a b c : ℕ) → (a == b) || (a == c) ≡ true → (a ≡ b) ⊎ (a ≡ c)
either_is a b c h = grind arith
