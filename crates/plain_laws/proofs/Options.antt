-- What is known of an option or a result whose outcome is known.
use Rattle.std.proofs.Common.{◌≡◌, ◌∙◌, refl, sym, Bool, true, false, Option, Some, None, Result, Ok, Err, if◌then◌else◌}
use Rattle.std.specs.Prelude.{is_err, OnOk}
use Rattle.std.specs.Option.{option_map}

pub none_some : {A P : Type 0} (a : A) → None ≡ Some a → P
none_some a h = absurd (never h)
  where
    never : None ≡ Some a → ⊥
    never h = cc

pub some_none : {A P : Type 0} (a : A) → Some a ≡ None → P
some_none a h = none_some a (sym h)

pub some_is : {A : Type 0} (a b : A) → Some a ≡ Some b → a ≡ b
some_is a b h = cc

pub some_same : {A : Type 0} (a b : A) → Some a ≡ Some b → b ≡ a
some_same a b h = cc

pub mapped_some : {A B : Type 0} (f : A → B) (o : Option A) (y : B) → option_map f o ≡ Some y → (x : A) × (o ≡ Some x) × (f x ≡ y)
mapped_some f (Some x) y e = (x, refl, cc)
mapped_some f None y e = none_some y e

-- a choice, by cases
pub choose : {A : Type 0} (c : Bool) (x y z : Option A) (P : Type 0) → (if c then x else y) ≡ z → (c ≡ true → x ≡ z → P) → (c ≡ false → y ≡ z → P) → P
choose true x y z P h so other = so refl h
choose false x y z P h so other = other refl h

-- something under a condition
pub when : {A : Type 0} (b : Bool) (a c : A) → (if b then Some a else None) ≡ Some c → (b ≡ true) × (a ≡ c)
when true a c h = (refl, cc)
when false a c h = none_some c h

-- what holds after an Ok, where the test for an Err failed
pub when_ok : {T E P : Type 0} (r : Result T E) (b : Bool) → b ≡ is_err r → b ≡ false → OnOk r P → P
when_ok (Ok v) b e f held = held
when_ok (Err v) b e f held = absurd (let apart : false ≡ true = sym f ∙ e in cc)
