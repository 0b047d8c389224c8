-- Each pair of files has one image, and the function gives it.
use Rattle.std.proofs.Common.{◌≡◌, inl, inr, ℕ, Bool, true, false, if◌then◌else◌, nat_lt, List, refl, sym, ◌∙◌, ap, subst, arith}
use Rattle.std.proofs.lemmas.Bool.Decides.{nat_tests}
use Rattle.plain_laws.proofs.Booleans.{if_false, if_true}
use Rattle.log_spec.specs.Image.{Image, closed, damaged, standing, IsImage}
use Rattle.log_spec.specs.ImageOf.{image_of}
use Rattle.log_spec.specs.PairImage.{PairImage, broken, counts, IsPairImage, pair_image}
use Rattle.log_spec.specs.declared.side.Side.TheVariants.{A, B}
use Rattle.log_spec.proofs.Images.{is_image, one_image}

images_differ : (at : ℕ) → closed ≡ damaged at → ⊥
images_differ at is = cc

standing_differs : (g : ℕ) (fs : List (List ℕ)) (q at : ℕ) → standing g fs q ≡ damaged at → ⊥
standing_differs g fs q at is = cc

module _ (a b : List ℕ) where
  by_order : (g h : ℕ) (fs gs : List (List ℕ)) (p q : ℕ) → IsImage a (standing g fs p) → IsImage b (standing h gs q) → (t : Bool) → nat_lt g h ≡ t
      → IsPairImage a b (if t then counts B h gs q else counts A g fs p)
  by_order g h fs gs p q x y true is = (y, inr (g, fs, p, grind (arith, nat_tests), x))
  by_order g h fs gs p q x y false is = (x, inr (h, gs, q, grind (arith, nat_tests), y))

  pub of_images : (x y : Image) → IsImage a x → IsImage b y → IsPairImage a b (pair_image x y)
  of_images closed closed x y = inr (x, y, refl)
  of_images closed (damaged at) x y = (y, λ place is. images_differ place (one_image a closed (damaged place) x is))
  of_images closed (standing h gs q) x y = (y, inl x)
  of_images (damaged at) other x y = inl x
  of_images (standing g fs p) closed x y = (x, inl y)
  of_images (standing g fs p) (damaged at) x y = (y, λ place is. standing_differs g fs p place (one_image a (standing g fs p) (damaged place) x is))
  of_images (standing g fs p) (standing h gs q) x y = by_order g h fs gs p q x y (nat_lt g h) refl

pub is_pair_image : (a b : List ℕ) → IsPairImage a b (pair_image (image_of a) (image_of b))
is_pair_image a b = of_images a b (image_of a) (image_of b) (is_image a) (is_image b)

unbroken : (x : Image) (at : ℕ) → ((place : ℕ) → x ≡ damaged place → ⊥) → pair_image x (damaged at) ≡ broken B at
unbroken closed at none = refl
unbroken (damaged place) at none = absurd (none place refl)
unbroken (standing g fs p) at none = refl

-- the function's value at two images
at_images : (a b : List ℕ) (x y : Image) (z : PairImage) → IsImage a x → IsImage b y → pair_image x y ≡ z → pair_image (image_of a) (image_of b) ≡ z
at_images a b x y z is_a is_b same =
    subst (λ (i : Image). pair_image i (image_of b) ≡ z) (one_image a x (image_of a) is_a (is_image a))
    (subst (λ (i : Image). pair_image x i ≡ z) (one_image b y (image_of b) is_b (is_image b)) same)

pub pair_image_is : (a b : List ℕ) (x : PairImage) → IsPairImage a b x → pair_image (image_of a) (image_of b) ≡ x
pair_image_is a b (broken A at) (inl is_a) = at_images a b (damaged at) (image_of b) (broken A at) is_a (is_image b) refl
pair_image_is a b (broken A at) (inr shut) = at_images a b closed closed (broken A at) shut.0 shut.1 (ap (broken A) (sym shut.2))
pair_image_is a b (broken B at) is =
    at_images a b (image_of a) (damaged at) (broken B at) (is_image a) is.0
    (unbroken (image_of a) at (λ place same. is.1 place (subst (λ (i : Image). IsImage a i) same (is_image a))))
pair_image_is a b (counts A g fs p) (is_a, inl is_b) = at_images a b (standing g fs p) closed (counts A g fs p) is_a is_b refl
pair_image_is a b (counts A g fs p) (is_a, inr older) =
    at_images a b (standing g fs p) (standing older.0 older.1 older.2) (counts A g fs p) is_a older.4
    (if_false (nat_lt g older.0) (counts B older.0 older.1 older.2) (counts A g fs p) (grind (arith, nat_tests, older.3)))
pair_image_is a b (counts B g fs p) (is_b, inl is_a) = at_images a b closed (standing g fs p) (counts B g fs p) is_a is_b refl
pair_image_is a b (counts B g fs p) (is_b, inr older) =
    at_images a b (standing older.0 older.1 older.2) (standing g fs p) (counts B g fs p) older.4 is_b
    (if_true (nat_lt older.0 g) (counts B g fs p) (counts A older.0 older.1 older.2) (grind (arith, nat_tests, older.3)))

pub one_pair_image : (a b : List ℕ) (x y : PairImage) → IsPairImage a b x → IsPairImage a b y → x ≡ y
one_pair_image a b x y is_x is_y = sym (pair_image_is a b x is_x) ∙ pair_image_is a b y is_y
