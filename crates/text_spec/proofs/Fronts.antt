-- What was read at the front of a text stands there.
use Rattle.std.proofs.Common.{◌≡◌, ◌∙◌, ◌⊎◌, inl, inr, ℕ, List, [], ◌∷◌, ◌||◌, ◌==◌, refl, Option, Some, None}
use Rattle.plain_laws.proofs.Booleans.{either_is}
use Rattle.plain_laws.proofs.Options.{none_some, when}
use Rattle.text_spec.specs.StampReader.{◌>>=◌, one_of}

pub bound : {A B : Type 0} (o : Option A) (f : A → Option B) (b : B) → o >>= f ≡ Some b → (a : A) × (o ≡ Some a) × (f a ≡ Some b)
bound None f b h = none_some b h
bound (Some a) f b h = (a, refl, h)

pub record HasOneOf (x y : ℕ) (text rest : List ℕ) : Type 0 where
  pub letter : ℕ
  pub letter_is : (letter ≡ x) ⊎ (letter ≡ y)
  pub text_is : text ≡ letter ∷ rest

pub one_of-stands : (x y : ℕ) (text rest : List ℕ) → one_of x y text ≡ Some rest → HasOneOf x y text rest
unfolding one_of
one_of-stands x y [] rest h = none_some rest h
one_of-stands x y (a ∷ more) rest h =
    let w = when ((a == x) || (a == y)) more rest h in
    record { letter = a; letter_is = either_is a x y w.0; text_is = λ i. a ∷ w.1 i }

one : (a x : ℕ) → (a ≡ x) ⊎ (a ≡ x) → a ≡ x
one a x (inl e) = e
one a x (inr e) = e

pub one_of-is : (x : ℕ) (text rest : List ℕ) → one_of x x text ≡ Some rest → text ≡ x ∷ rest
one_of-is x text rest h =
    let f = one_of-stands x x text rest h in
    f.text_is ∙ (λ i. one f.letter x f.letter_is i ∷ rest)
