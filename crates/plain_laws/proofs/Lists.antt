-- Fronts of lists that are joined, and texts that are compared.
use Rattle.std.proofs.Common.{◌≡◌, ◌∙◌, ℕ, zero, suc, ◌<◌, List, [], ◌∷◌, ◌++◌, length, map, take, drop, slice_get, refl, ap, true, append_assoc, Some, arith}
use Rattle.std.specs.Str.{bytes_eq}
use Rattle.std.proofs.lemmas.Slice.Eq.{bytes_eq-Decides}

pub take-whole : {A : Type 0} (xs rest : List A) → take (length xs) (xs ++ rest) ≡ xs
take-whole [] rest = refl
take-whole (x ∷ xs) rest = ap (λ ys. x ∷ ys) (take-whole xs rest)

pub drop-whole : {A : Type 0} (xs rest : List A) → drop (length xs) (xs ++ rest) ≡ rest
drop-whole [] rest = refl
drop-whole (x ∷ xs) rest = drop-whole xs rest

-- four lists, joined from the other side
pub regroup : {A : Type 0} (a b c d : List A) → a ++ b ++ c ++ d ≡ a ++ (b ++ (c ++ d))
regroup a b c d = append_assoc (a ++ b) c d ∙ append_assoc a b (c ++ d)

pub bytes_eq-itself : (xs : List ℕ) → bytes_eq xs xs ≡ true
bytes_eq-itself xs = (bytes_eq-Decides xs xs).1 refl

pub one_text : (a b : List ℕ) → bytes_eq a b ≡ true → a ≡ b
one_text a b = (bytes_eq-Decides a b).0

-- ---- the first elements

pub same_first : (a b : ℕ) (xs ys : List ℕ) → a ∷ xs ≡ b ∷ ys → a ≡ b
same_first a b xs ys h = cc

pub get_left : {A : Type 0} (xs ys : List A) (i : ℕ) → i < length xs → slice_get (xs ++ ys) i ≡ slice_get xs i
get_left [] ys i h = absurd (omega (arith, h))
get_left (x ∷ xs) ys zero h = refl
get_left (x ∷ xs) ys (suc i) h = get_left xs ys i (omega (arith, h))

-- ---- what is left, and what is mapped

-- what is left begins with what stands there
pub left_at : {A : Type 0} (xs : List A) (i : ℕ) (x : A) → slice_get xs i ≡ Some x → drop i xs ≡ x ∷ drop (suc i) xs
left_at [] i x h = cc
left_at (y ∷ xs) zero x h = let same : y ≡ x = cc in ap (λ z. z ∷ xs) same
left_at (y ∷ xs) (suc i) x h = left_at xs i x h

pub map_both : {A B : Type 0} (f : A → B) (xs ys : List A) → map f (xs ++ ys) ≡ map f xs ++ map f ys
map_both f [] ys = refl
map_both f (x ∷ xs) ys = ap (λ l. f x ∷ l) (map_both f xs ys)
