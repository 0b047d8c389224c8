-- Two groups are one where their texts are.
use Rattle.std.proofs.Common.{◌≡◌, ◌∙◌, ℕ, ◌+◌, ◌==◌, List, [], ◌∷◌, ◌++◌, arith, refl, ap, Bool, true, false, ◌&&◌, nat_eq}
use Rattle.std.specs.Str.{bytes_eq}
use Rattle.std.proofs.lemmas.Slice.Eq.{bytes_eq-Decides}
use Rattle.entry_tree.specs.fleet_rows.Change.{kind_number}
use Rattle.entry_tree.specs.fleet_rows.declared.command.Group.{Group}
use Rattle.entry_tree.specs.core_machine.Claims.{same_group}
use Rattle.supersede_core.specs.Index.{key_text}

and_true : (b : Bool) → (b && true) ≡ b
and_true true = refl
and_true false = refl

and_none : (b : Bool) → (b && false) ≡ false
and_none true = refl
and_none false = refl

and_more : (a b c : Bool) → (a && (b && c)) ≡ ((a && b) && c)
and_more true b c = refl
and_more false b c = refl

none_as_long : (bs : List ℕ) (y : ℕ) → bytes_eq [] (bs ++ y ∷ []) ≡ false
none_as_long [] y = refl
none_as_long (b ∷ bs) y = refl

none_as_short : (xs : List ℕ) (x : ℕ) → bytes_eq (xs ++ x ∷ []) [] ≡ false
none_as_short [] x = refl
none_as_short (a ∷ xs) x = refl

ends_eq : (xs bs : List ℕ) (x y : ℕ) → bytes_eq (xs ++ x ∷ []) (bs ++ y ∷ []) ≡ (bytes_eq xs bs && nat_eq x y)
ends_eq [] [] x y = and_true (nat_eq x y)
ends_eq [] (b ∷ bs) x y = ap (λ c. nat_eq x b && c) (none_as_long bs y) ∙ and_none (nat_eq x b)
ends_eq (a ∷ xs) [] x y = ap (λ c. nat_eq a y && c) (none_as_short xs x) ∙ and_none (nat_eq a y)
ends_eq (a ∷ xs) (b ∷ bs) x y = ap (λ c. nat_eq a b && c) (ends_eq xs bs x y) ∙ and_more (nat_eq a b) (bytes_eq xs bs) (nat_eq x y)

digit_step : (m n : ℕ) (b : Bool) → (m == n) ≡ b → nat_eq (48 + m) (48 + n) ≡ b
digit_step m n true e = grind arith
digit_step m n false e = grind arith

pub same_text : (g h : Group) → bytes_eq (key_text g) (key_text h) ≡ same_group g h
same_text g h =
    ends_eq g.certname h.certname (48 + kind_number g.kind) (48 + kind_number h.kind)
    ∙ ap (λ b. bytes_eq g.certname h.certname && b) (digit_step (kind_number g.kind) (kind_number h.kind) (kind_number g.kind == kind_number h.kind) refl)

pub text_is : (a b : List ℕ) → a ≡ b → bytes_eq a b ≡ true
text_is a b = (bytes_eq-Decides a b).1
